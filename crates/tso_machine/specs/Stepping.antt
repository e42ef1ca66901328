-- Labels that are steps, and labels that are none.
use Rattle.std.specs.Prelude.{◌≡◌, Bool, true, false, Some, slice_get}
use Rattle.tso_machine.specs.Activations.{Activation}
use Rattle.tso_machine.specs.declared.label.LabelKind.{LabelKind}
use Rattle.tso_machine.specs.declared.label.LabelKind.TheVariants as kinds
use Rattle.tso_machine.specs.Changes.{thread_after, FitsChange}
use Rattle.tso_machine.specs.Machines.{label_of, machine_of}
use Rattle.tso_machine.specs.Offers.{performed}
use Rattle.tso_machine.specs.declared.label.Label.{Label as Named}
use Rattle.tso_machine.specs.declared.machine.Machine.{Machine as Here}
use Rattle.tso_machine.specs.declared.machine.Thread.{Thread}
use Rattle.tso_machine.specs.declared.offer.Offer.{Offer}
use Rattle.tso_model.specs.Labels.{Label, Machine, Step}
use Rattle.tso_model.specs.Programs.{Program}

-- the label leads to no machine
abbrev pub IsNoStep : Program Activation → Machine Activation → Label → Type 0
IsNoStep p m l = (after : Machine Activation) → Step p m l after → ⊥

-- the label leads to some machine
abbrev pub IsStep : Program Activation → Machine Activation → Label → Type 0
IsStep p m l = (after : Machine Activation) × Step p m l after

abbrev pub is_drain : LabelKind → Bool
is_drain (kinds.Drain place word) = true
is_drain _ = false

-- the label is a step, and the offer makes it of the thread that it names
pub record IsOffered (p : Program Activation) (m : Here) (l : Named) (o : Offer) : Type 0 where
  pub thread : Thread
  pub there : slice_get m.threads l.thread ≡ Some thread
  pub fits : FitsChange thread o.change
  pub step : Step p (machine_of m) (label_of l) (machine_of (performed m l.thread o.kind (thread_after thread o.change)))
