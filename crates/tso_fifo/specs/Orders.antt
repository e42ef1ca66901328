-- Orders as those of the model.
use Rattle.std.specs.Prelude.{ℕ, List, map, Option, Some, None}
use Rattle.tso_fifo.specs.declared.order.Placed.{Placed}
use Rattle.tso_hist.specs.declared.call.Call.{Call}
use Rattle.tso_hist.specs.Views.{history_view}
use Rattle.tso_line.specs.declared.instruction.Mode.{Mode}
use Rattle.tso_model.specs.Linear as model
use Rattle.tso_model.specs.Linear.{IsOrder, call_at}
use Rattle.tso_model.specs.Objects.{Queue}
use Rattle.tso_model.specs.Programs.{CallKind, Pop}
use Rattle.tso_model.specs.States.{Called}
use Rattle.tso_prog.specs.Views.{answer_view, mode_view}

-- the kind of a call, that of a pop where none is given
abbrev pub kind_of : Option Called → CallKind
kind_of None = Pop
kind_of (Some c) = c.kind

-- a call in its place, of the kind that it has in the history
abbrev pub placed_in : List (List Called) → Placed → model.Placed
placed_in h o = record { thread = o.thread; number = o.call; kind = kind_of (call_at h o.thread o.call); answer = answer_view o.answer }

-- one after another
abbrev pub order_view : List (List Called) → List Placed → List model.Placed
order_view h order = map (placed_in h) order

-- the order explains the history by a queue
abbrev pub IsOrderOf : Mode → ℕ → List (List Call) → List model.Placed → Type 0
IsOrderOf mode capacity h order = IsOrder (Queue (mode_view mode) capacity) (history_view h) order

-- some order does
abbrev pub HasOrder : Mode → ℕ → List (List Call) → Type 0
HasOrder mode capacity h = (order : List model.Placed) × IsOrderOf mode capacity h order
