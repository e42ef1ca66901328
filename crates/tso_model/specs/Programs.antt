-- Programs with an abstract instruction semantics: what a thread's next instruction does, and which calls each thread makes.
-- Nothing here knows an instruction: `F` is any type of frames, what a running thread knows of itself.
use Rattle.std.specs.Prelude.{ℕ, List, [], slice_index_or, Option}

-- a call of the object: a push of a word, or a pop
pub data CallKind : Type 0 where
  Push : ℕ → CallKind
  Pop : CallKind

-- what a call returns: refused (full or empty), a push that is done, or the word of a pop
pub data Answer : Type 0 where
  Refused Done : Answer
  Value : ℕ → Answer

-- a push is refused or done, a pop is refused or gives a value
abbrev pub IsAnswerOf : CallKind → Answer → Type 0
IsAnswerOf k Refused = Unit {0}
IsAnswerOf (Push v) Done = Unit {0}
IsAnswerOf Pop Done = ⊥
IsAnswerOf (Push v) (Value w) = ⊥
IsAnswerOf Pop (Value w) = Unit {0}

-- why a thread faults: an access outside its array, a false assertion, an answer outside the convention
pub data FaultKind : Type 0 where
  OutOfRange FalseAssertion BadAnswer : FaultKind

-- what the next instruction of a running thread does, from its frame on: position, registers, flags and counts
pub data Action (F : Type 0) : Type 0 where
  -- it touches no memory, and goes on with this frame
  Silent : F → Action F
  -- it reads the place, and goes on by the word
  Load : ℕ → (ℕ → F) → Action F
  -- it stores the word to the place
  Store : ℕ → ℕ → F → Action F
  -- a fence: it waits until the thread's own stores are in memory
  Barrier : F → Action F
  -- a locked read-modify-write of the place: the new word by the old one, and how to go on by the old one
  Locked : ℕ → (ℕ → ℕ) → (ℕ → F) → Action F
  -- the call returns this answer
  Ret : Answer → Action F
  -- the thread faults
  Fail : FaultKind → Action F
  -- a loop is at its bound: no run within bounds goes on
  Cut : Action F

-- the instructions, the first frame of each call, the calls of each thread, and the thread, if there is one, whose calls all others wait for
pub record Program (F : Type 0) : Type 0 where
  pub next : F → Action F
  pub start : CallKind → F
  pub calls : List (List CallKind)
  pub prologue : Option ℕ

-- the calls of thread i, in order
abbrev pub calls_of : {F : Type 0} → Program F → ℕ → List CallKind
calls_of p i = slice_index_or p.calls i []
