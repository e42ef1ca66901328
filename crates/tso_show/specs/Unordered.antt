-- How far the calls and returns of a run have a linearization (Herlihy and Wing 1990).
use Rattle.std.specs.Prelude.{◌≡◌, ℕ, ◌+◌, Bool, true, false, List, map, take, Some, slice_get}
use Rattle.tso_fifo.specs.Orders.{order_view}
use Rattle.tso_fifo.specs.declared.order.Placed.{Placed}
use Rattle.tso_machine.specs.Machines.{label_of}
use Rattle.tso_machine.specs.Programs.{program_of}
use Rattle.tso_machine.specs.declared.label.Label.{Label}
use Rattle.tso_machine.specs.declared.label.LabelKind.{LabelKind}
use Rattle.tso_machine.specs.declared.label.LabelKind.TheVariants as kinds
use Rattle.tso_model.specs.Events.{events_of}
use Rattle.tso_model.specs.Linear.{IsLinearizable, IsLinearization}
use Rattle.tso_model.specs.States.{Called, first_history}
use Rattle.tso_model.specs.Views.{after_labels}
use Rattle.tso_prog.specs.declared.client.Client.{Client}
use Rattle.tso_show.specs.declared.unordered.Served.{Served}
use Rattle.tso_show.specs.declared.unordered.Served.TheVariants as served
use Rattle.tso_trace.specs.Runs.{queue_of}

-- a call or a return
abbrev pub is_event : LabelKind → Bool
is_event (kinds.Call kind) = true
is_event (kinds.Return answer) = true
is_event _ = false

-- the history that the calls and returns make
abbrev pub counted : Client → List Label → List (List Called)
counted c labels = after_labels (first_history (program_of c)) (map label_of labels)

-- the order is a linearization of the calls and returns of these labels
abbrev pub IsOrderFor : Client → List Label → List Placed → Type 0
IsOrderFor c labels order = IsLinearization (queue_of c) (events_of (map label_of labels)) (order_view (counted c labels) order)

-- they have one
abbrev pub AreOrdered : Client → List Label → Type 0
AreOrdered c labels = IsLinearizable (queue_of c) (events_of (map label_of labels))

-- the calls and returns up to the label of this number have none, and the order is one of those before it
pub record IsFirstUnordered (c : Client) (labels : List Label) (number : ℕ) (order : List Placed) : Type 0 where
  pub position : ℕ
  pub label : Label
  pub there : slice_get labels position ≡ Some label
  pub counted : number ≡ position + 1
  pub before : IsOrderFor c (take position labels) order
  pub none : AreOrdered c (take number labels) → ⊥

abbrev pub IsServed : Client → List Label → Served → Type 0
IsServed c labels (served.Whole order) = IsOrderFor c labels order
IsServed c labels (served.Until label order) = IsFirstUnordered c labels label order
