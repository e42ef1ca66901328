-- Events of threads that call and return in turn, and the history that they make.
use Rattle.std.specs.Prelude.{◌≡◌, ℕ, ◌+◌, ◌<◌, List, [], ◌∷◌, ◌++◌, length, replicate}
use Rattle.tso_hist.specs.declared.call.Call.{Call}
use Rattle.tso_hist.specs.Views.{history_view}
use Rattle.tso_model.specs.Events.{CallOf, Event, ReturnOf, after_events, calls_begun, calls_returned, events_of}
use Rattle.tso_model.specs.Histories.{SameCalls}
use Rattle.tso_model.specs.Labels.{Label, Machine, Run, first_machine}
use Rattle.tso_model.specs.Programs.{Program}

-- one of n threads calls where all its calls have returned, or returns where one has not
abbrev pub MayFollow : ℕ → List Event → Event → Type 0
MayFollow n past (CallOf t kind) = (t < n) × (calls_begun t past ≡ calls_returned t past)
MayFollow n past (ReturnOf t answer) = (t < n) × (calls_begun t past ≡ calls_returned t past + 1)

-- each event may follow those before it
abbrev pub IsInTurn : ℕ → List Event → Type 0
IsInTurn n events = (past : List Event) (e : Event) (later : List Event) → events ≡ past ++ e ∷ later → MayFollow n past e

-- the history after these events of n threads, as on_call and on_return make it
abbrev pub IsHistoryOf : ℕ → List Event → List (List Call) → Type 0
IsHistoryOf n events h = history_view h ≡ after_events (replicate n []) events

-- the history says of kinds, answers and "before" what the events say
abbrev pub HistoriesTell : Type 0
HistoriesTell = (n : ℕ) (events : List Event) (h : List (List Call)) → IsInTurn n events → IsHistoryOf n events h → SameCalls (history_view h) events

-- in each run of a program its threads call and return in turn
abbrev pub RunsAreInTurn : Type 0 → Type 0
RunsAreInTurn F = (P : Program F) (memory : List ℕ) (labels : List Label) (m : Machine F) → Run P (first_machine P memory) labels m → IsInTurn (length P.calls) (events_of labels)
