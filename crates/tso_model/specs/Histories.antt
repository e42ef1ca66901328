-- What a counted history says of its calls is what the events say of them.
use Rattle.std.specs.Prelude.{◌≡◌, ℕ, ◌↔◌, List, Some, slice_get}
use Rattle.tso_model.specs.Events.{Event, IsBefore, after_events, answers_of, events_of, kinds_of}
use Rattle.tso_model.specs.Labels.{Label, Machine, Run, after_labels, first_machine}
use Rattle.tso_model.specs.Linear.{IsLinearization, IsOrder, Placed, Precedes, call_at}
use Rattle.tso_model.specs.Objects.{Object}
use Rattle.tso_model.specs.Programs.{Answer, CallKind, Program}
use Rattle.tso_model.specs.States.{Called, first_history}

-- call k of the thread has begun
abbrev pub HasBegun : List (List Called) → ℕ → ℕ → CallKind → Type 0
HasBegun h t k kind = (d : Called) × (call_at h t k ≡ Some d) × (d.kind ≡ kind)

-- and has returned with this answer
abbrev pub HasAnswer : List (List Called) → ℕ → ℕ → Answer → Type 0
HasAnswer h t k a = (d : Called) × (call_at h t k ≡ Some d) × (d.answer ≡ Some a)

-- kinds, answers and which calls are before which
pub record SameCalls (h : List (List Called)) (es : List Event) : Type 0 where
  pub begun : (t k : ℕ) (kind : CallKind) → HasBegun h t k kind ↔ (slice_get (kinds_of t es) k ≡ Some kind)
  pub completed : (t k : ℕ) (a : Answer) → HasAnswer h t k a ↔ (slice_get (answers_of t es) k ≡ Some a)
  pub before : (t k u j : ℕ) → Precedes h t k u j ↔ IsBefore es t k u j

-- the counted history takes nothing but the events from a run's labels
abbrev pub HistoriesAreOfEvents : Type 0
HistoriesAreOfEvents = (h : List (List Called)) (ls : List Label) → after_labels h ls ≡ after_events h (events_of ls)

-- what the counted history of a run says of its calls is what its events say
abbrev pub HistoriesTell : Type 0 → Type 0
HistoriesTell F =
    (P : Program F) (memory : List ℕ) (ls : List Label) (m : Machine F) → Run P (first_machine P memory) ls m
    → SameCalls (after_labels (first_history P) ls) (events_of ls)

-- the orders of a run's counted history are the linearizations of its events
abbrev pub OrdersAreLinearizations : Type 0 → Type 0
OrdersAreLinearizations F =
    (P : Program F) (memory : List ℕ) (ls : List Label) (m : Machine F) → Run P (first_machine P memory) ls m
    → (object : Object) (order : List Placed) → IsOrder object (after_labels (first_history P) ls) order ↔ IsLinearization object (events_of ls) order
