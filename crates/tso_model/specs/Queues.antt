-- What the bounded queue's rules mean, over whole lists of calls: laws that a reader can hold against the rules.
use Rattle.std.specs.Prelude.{◌≡◌, ◌↔◌, ℕ, ◌<◌, ◌≤◌, List, [], ◌∷◌, ◌++◌, length}
use Rattle.tso_model.specs.Objects.{Mode, QueueStep, QueueSteps, Strict, Weak}
use Rattle.tso_model.specs.Programs.{Answer, CallKind, Done, IsAnswerOf, Pop, Push, Refused, Value}

-- the word that the call puts in, if it is a push that is done
abbrev pub word_pushed : CallKind → Answer → List ℕ
word_pushed (Push v) Done = v ∷ []
word_pushed k a = []

-- the word that the call takes out, if it is a pop that gives one
abbrev pub word_popped : CallKind → Answer → List ℕ
word_popped Pop (Value v) = v ∷ []
word_popped k a = []

-- the words that go in, in order
abbrev pub all_pushed : List (CallKind × Answer) → List ℕ
all_pushed [] = []
all_pushed (c ∷ cs) = word_pushed c.0 c.1 ++ all_pushed cs

-- the words that come out, in order
abbrev pub all_popped : List (CallKind × Answer) → List ℕ
all_popped [] = []
all_popped (c ∷ cs) = word_popped c.0 c.1 ++ all_popped cs

-- first in, first out: what was there and then went in is what came out and is still there
abbrev pub QueuesAreFifo : Type 0
QueuesAreFifo = (mode : Mode) (capacity : ℕ) (before : List ℕ) (calls : List (CallKind × Answer)) (after : List ℕ) →
    QueueSteps mode capacity before calls after → before ++ all_pushed calls ≡ all_popped calls ++ after

-- a queue never holds more than its capacity
abbrev pub QueuesAreBounded : Type 0
QueuesAreBounded = (mode : Mode) (capacity : ℕ) (before : List ℕ) (calls : List (CallKind × Answer)) (after : List ℕ) →
    QueueSteps mode capacity before calls after → length before ≤ capacity → length after ≤ capacity

-- a strict queue has but one answer to each call
abbrev pub StrictQueuesAreDetermined : Type 0
StrictQueuesAreDetermined = (capacity : ℕ) (before : List ℕ) (k : CallKind) (a b : Answer) (x y : List ℕ) →
    QueueStep Strict capacity before k a x → QueueStep Strict capacity before k b y → (a ≡ b) × (x ≡ y)

-- a strict queue with at most as many items as its capacity has an answer to each call
abbrev pub IsAnswered : ℕ → List ℕ → CallKind → Type 0
IsAnswered capacity before k = (a : Answer) × (after : List ℕ) × QueueStep Strict capacity before k a after

-- it has one; a push is done exactly below the capacity, and refused exactly at it; a pop gives the front where there is
-- one, and is refused exactly where there is none
pub record StrictQueuesAnswer : Type 0 where
  pub answered : (capacity : ℕ) (before : List ℕ) (k : CallKind) → length before ≤ capacity → IsAnswered capacity before k
  pub pushes : (capacity : ℕ) (before : List ℕ) (v : ℕ) → QueueStep Strict capacity before (Push v) Done (before ++ v ∷ []) ↔ (length before < capacity)
  pub full : (capacity : ℕ) (before : List ℕ) (v : ℕ) → QueueStep Strict capacity before (Push v) Refused before ↔ (length before ≡ capacity)
  pub pops : (capacity : ℕ) (front : ℕ) (rest : List ℕ) (a : Answer) (after : List ℕ) → QueueStep Strict capacity (front ∷ rest) Pop a after ↔ ((a ≡ Value front) × (after ≡ rest))
  pub empty : (capacity : ℕ) (a : Answer) (after : List ℕ) → QueueStep Strict capacity [] Pop a after ↔ ((a ≡ Refused) × (after ≡ []))

-- what a strict queue may do, a weak one may
abbrev pub StrictIsWeak : Type 0
StrictIsWeak = (capacity : ℕ) (before : List ℕ) (calls : List (CallKind × Answer)) (after : List ℕ) →
    QueueSteps Strict capacity before calls after → QueueSteps Weak capacity before calls after

-- a call has exactly the answers of its kind that a queue may give to it in some state
abbrev pub AnswersAreQueueAnswers : Type 0
AnswersAreQueueAnswers = (k : CallKind) (a : Answer) → IsAnswerOf k a ↔ ((before after : List ℕ) × QueueStep Weak 1 before k a after)
