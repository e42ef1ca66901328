-- A run's history: its calls and returns in order, what they say of each call, and which calls are before which.
-- After Herlihy, Wing, "Linearizability: a correctness condition for concurrent objects", TOPLAS 12(3), 1990.
use Rattle.std.specs.Prelude.{◌≡◌, ℕ, ◌+◌, ◌<◌, ◌==◌, if◌then◌else◌, List, [], ◌∷◌, ◌++◌}
use Rattle.tso_model.specs.Labels.{By, Call, Label, Return}
use Rattle.tso_model.specs.Programs.{Answer, CallKind}
use Rattle.tso_model.specs.States.{Answered, Began, Called, logged}

-- a call of a thread begins, or its call returns with this answer
pub data Event : Type 0 where
  CallOf : (thread : ℕ) → CallKind → Event
  ReturnOf : (thread : ℕ) → Answer → Event

-- the Call and Return labels, and no others
abbrev pub event_of : Label → List Event
event_of (By i (Call k)) = CallOf i k ∷ []
event_of (By i (Return a)) = ReturnOf i a ∷ []
event_of (By i _) = []

-- a run's history
abbrev pub events_of : List Label → List Event
events_of [] = []
events_of (l ∷ ls) = event_of l ++ events_of ls

-- 1 for the same thread
abbrev pub one_if_same : ℕ → ℕ → ℕ
one_if_same i t = if i == t then 1 else 0

-- 1 for a call of thread t that begins
abbrev pub call_count : ℕ → Event → ℕ
call_count t (CallOf i k) = one_if_same i t
call_count t (ReturnOf i a) = 0

-- 1 for a call of thread t that returns
abbrev pub return_count : ℕ → Event → ℕ
return_count t (CallOf i k) = 0
return_count t (ReturnOf i a) = one_if_same i t

-- how many calls of the thread begin
abbrev pub calls_begun : ℕ → List Event → ℕ
calls_begun t [] = 0
calls_begun t (e ∷ es) = call_count t e + calls_begun t es

-- how many return
abbrev pub calls_returned : ℕ → List Event → ℕ
calls_returned t [] = 0
calls_returned t (e ∷ es) = return_count t e + calls_returned t es

-- the event's call, if it is one of thread t
abbrev pub kinds_in : ℕ → Event → List CallKind
kinds_in t (CallOf i k) = if i == t then k ∷ [] else []
kinds_in t (ReturnOf i a) = []

-- the thread's calls in order
abbrev pub kinds_of : ℕ → List Event → List CallKind
kinds_of t [] = []
kinds_of t (e ∷ es) = kinds_in t e ++ kinds_of t es

-- the event's answer, if it is one of thread t
abbrev pub answers_in : ℕ → Event → List Answer
answers_in t (CallOf i k) = []
answers_in t (ReturnOf i a) = if i == t then a ∷ [] else []

-- the thread's answers in order: answer k is that of call k
abbrev pub answers_of : ℕ → List Event → List Answer
answers_of t [] = []
answers_of t (e ∷ es) = answers_in t e ++ answers_of t es

-- call k of t is before call j of u: its Return stands earlier than the other's Call
pub record IsBefore (es : List Event) (t k u j : ℕ) : Type 0 where
  pub earlier : List Event
  pub kind : CallKind
  pub later : List Event
  pub split : es ≡ earlier ++ CallOf u kind ∷ later
  pub number : calls_begun u earlier ≡ j
  pub done : k < calls_returned t earlier

-- the counted history after an event
abbrev pub after_event : List (List Called) → Event → List (List Called)
after_event h (CallOf i k) = logged h i (Began k)
after_event h (ReturnOf i a) = logged h i (Answered a)

-- and after these events
abbrev pub after_events : List (List Called) → List Event → List (List Called)
after_events h [] = h
after_events h (e ∷ es) = after_events (after_event h e) es
