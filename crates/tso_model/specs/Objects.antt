-- Sequential objects: which lists of calls with answers, one after another, they allow. (The sequential specification of
-- Herlihy and Wing, TOPLAS 12(3), 1990.)
use Rattle.std.specs.Prelude.{◌≡◌, ℕ, ◌<◌, List, [], ◌∷◌, ◌++◌, length, Bool, IsTrue}
use Rattle.tso_model.specs.Programs.{Answer, CallKind, Done, Pop, Push, Refused, Value}

-- when a queue may refuse: a strict one a push only where it is full and a pop only where it is empty, a weak one at any time
pub data Mode : Type 0 where
  Strict Weak : Mode

-- a queue of this capacity that holds these items may refuse the call
abbrev pub MayRefuse : Mode → ℕ → List ℕ → CallKind → Type 0
MayRefuse Strict capacity items (Push v) = length items ≡ capacity
MayRefuse Strict capacity items Pop = items ≡ []
MayRefuse Weak capacity items kind = Unit {0}

-- a bounded queue that holds the first list may give this answer to the call and hold the second then
abbrev pub QueueStep : Mode → ℕ → List ℕ → CallKind → Answer → List ℕ → Type 0
QueueStep mode capacity before (Push v) Done after = (length before < capacity) × (after ≡ before ++ v ∷ [])
QueueStep mode capacity before Pop (Value v) after = before ≡ v ∷ after
QueueStep mode capacity before (Push v) Refused after = MayRefuse mode capacity before (Push v) × (after ≡ before)
QueueStep mode capacity before Pop Refused after = MayRefuse mode capacity before Pop × (after ≡ before)
QueueStep mode capacity before (Push v) (Value w) after = ⊥
QueueStep mode capacity before Pop Done after = ⊥

-- and so on with the calls of a list
abbrev pub QueueSteps : Mode → ℕ → List ℕ → List (CallKind × Answer) → List ℕ → Type 0
QueueSteps mode capacity before [] after = after ≡ before
QueueSteps mode capacity before (c ∷ cs) after = (mid : List ℕ) × QueueStep mode capacity before c.0 c.1 mid × QueueSteps mode capacity mid cs after

-- an object that a test of lists describes, or a bounded first-in first-out queue
pub data Object : Type 0 where
  Tested : (List (CallKind × Answer) → Bool) → Object
  Queue : Mode → ℕ → Object

-- the tested object allows a list all of whose beginnings pass, a queue one that it can take from empty on
abbrev pub Allows : Object → List (CallKind × Answer) → Type 0
Allows (Tested test) calls = (xs ys : List (CallKind × Answer)) → calls ≡ xs ++ ys → IsTrue (test xs)
Allows (Queue mode capacity) calls = (after : List ℕ) × QueueSteps mode capacity [] calls after
