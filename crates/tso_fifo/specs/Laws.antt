-- What holds of all histories and their orders.
use Rattle.std.specs.Prelude.{◌≡◌, ◌⊎◌, ℕ, ◌↔◌, List, ◌++◌}
use Rattle.tso_fifo.specs.Orders.{HasOrder, IsOrderOf}
use Rattle.tso_hist.specs.declared.call.Call.{Call}
use Rattle.tso_hist.specs.Turns.{IsHistoryOf, IsInTurn}
use Rattle.tso_hist.specs.Views.{history_view}
use Rattle.tso_line.specs.declared.instruction.Mode.{Mode}
use Rattle.tso_model.specs.Events.{Event, after_events, events_of}
use Rattle.tso_model.specs.Labels.{Label, Machine, Run, first_machine}
use Rattle.tso_model.specs.Linear.{IsLinearization, IsOrder, Placed}
use Rattle.tso_model.specs.Objects as objects
use Rattle.tso_model.specs.Objects.{Queue}
use Rattle.tso_model.specs.Programs.{Program}
use Rattle.tso_model.specs.States.{Called, first_history}
use Rattle.tso_model.specs.Strictness.{HistoryAtLeast}
use Rattle.tso_prog.specs.Views.{mode_view}

-- a history's orders are the linearizations of the events that made it
abbrev pub OrdersAreLinearizations : Type 0
OrdersAreLinearizations = (mode : Mode) (capacity n : ℕ) (events : List Event) (h : List (List Call)) (order : List Placed) → IsInTurn n events → IsHistoryOf n events h →
    IsOrderOf mode capacity h order ↔ IsLinearization (Queue (mode_view mode) capacity) events order

-- the same of the history that a run's events made, from that of a program's threads without a call on
abbrev pub OrdersOfRuns : Type 0 → Type 0
OrdersOfRuns F = (P : Program F) (memory : List ℕ) (labels : List Label) (m : Machine F) (mode : Mode) (capacity : ℕ) (h : List (List Call)) (order : List Placed) → Run P (first_machine P memory) labels m → history_view h ≡ after_events (first_history P) (events_of labels) →
    IsOrderOf mode capacity h order ↔ IsLinearization (Queue (mode_view mode) capacity) (events_of labels) order

-- a history that a beginning of the events made has an order where the whole one has
abbrev pub BeginningsAreLinearizable : Type 0
BeginningsAreLinearizable = (mode : Mode) (capacity n : ℕ) (events more : List Event) (h whole : List (List Call)) → IsInTurn n (events ++ more) → IsHistoryOf n events h → IsHistoryOf n (events ++ more) whole →
    HasOrder mode capacity whole → HasOrder mode capacity h

-- an order of the stricter history is one of the looser
abbrev pub StricterOrdersServe : Type 0
StricterOrdersServe = (mode : Mode) (capacity : ℕ) (strict loose : List (List Call)) (order : List Placed) → HistoryAtLeast (history_view strict) (history_view loose) →
    IsOrderOf mode capacity strict order → IsOrderOf mode capacity loose order

-- a counted history has an order, or it has none
abbrev pub OrdersAreDecided : Type 0
OrdersAreDecided = (mode : objects.Mode) (capacity : ℕ) (h : List (List Called)) →
    ((order : List Placed) × IsOrder (Queue mode capacity) h order) ⊎ ((order : List Placed) → IsOrder (Queue mode capacity) h order → ⊥)
