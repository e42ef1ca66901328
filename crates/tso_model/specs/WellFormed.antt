-- Well-formed compact states of a program: all that a single state shows of having been reached.
use Rattle.std.specs.Prelude.{◌≡◌, ◌≢◌, ◌⊎◌, ℕ, ◌<◌, ◌≤◌, Bool, true, List, [], ◌∷◌, length, Some, None, slice_get, slice_index_or}
use Rattle.tso_model.specs.Programs.{Answer, CallKind, IsAnswerOf, Program, calls_of}
use Rattle.tso_model.specs.Prologue.{is_thread_over}
use Rattle.tso_model.specs.States.{Buffer, Called, CompactCore, Resting, Executing, State, Halted, CompactThread, begun_by, calls_in, returned}

-- each buffered place is one of so many
abbrev pub Within : ℕ → Buffer → Type 0
Within size [] = Unit {0}
Within size (e ∷ rest) = (e.0 < size) × Within size rest

-- it has an answer of its kind
abbrev pub HasReturned : Called → Type 0
HasReturned c = (a : Answer) × (c.answer ≡ Some a) × IsAnswerOf c.kind a

-- each has
abbrev pub AllReturned : List Called → Type 0
AllReturned [] = Unit {0}
AllReturned (c ∷ cs) = HasReturned c × AllReturned cs

-- there is a last call, pending and of a kind that passes the test, and all others have returned
abbrev pub IsInLast : (CallKind → Bool) → List Called → Type 0
IsInLast test [] = ⊥
IsInLast test (c ∷ []) = (c.answer ≡ None) × (test c.kind ≡ true)
IsInLast test (c ∷ d ∷ cs) = HasReturned c × IsInLast test (d ∷ cs)

-- an idle thread's calls have all returned; a running or stopped thread is in its last call, with a frame that can occur in it
abbrev pub CallsFit : {F : Type 0} → (CallKind → F → Bool) → CompactCore F → List Called → Type 0
CallsFit sound Resting calls = AllReturned calls
CallsFit sound (Executing f) calls = IsInLast (λ k. sound k f) calls
CallsFit sound Halted calls = IsInLast (λ k. true) calls

-- call `number` of thread i is the program's; what it has seen fits the history
pub record IsCallOf {F : Type 0} (p : Program F) (h : List (List Called)) (i number : ℕ) (c : Called) : Type 0 where
  pub kind : slice_get (calls_of p i) number ≡ Some c.kind
  pub width : length c.seen ≡ length p.calls
  pub own : slice_index_or c.seen i 0 ≡ number
  pub others : (j : ℕ) → slice_index_or c.seen j 0 ≤ returned (calls_in h j)

-- the thread has begun a call or has something in its buffer
abbrev pub HasStarted : {F : Type 0} → State F → ℕ → Type 0
HasStarted {F} s i = (0 < begun_by s i) ⊎ ((t : CompactThread F) × (slice_get s.threads i ≡ Some t) × (0 < length t.buffer))

-- a well-formed state of the program, with a memory of this size, and a test of the frames that can occur in each call: as many threads and
-- histories as the program has, buffered places in memory, calls that are the program's and fit what their thread does, and nothing begun or
-- buffered elsewhere before the prologue is over
pub record IsWellFormed {F : Type 0} (p : Program F) (size : ℕ) (sound : CallKind → F → Bool) (s : State F) : Type 0 where
  pub memory : length s.memory ≡ size
  pub threads : length s.threads ≡ length p.calls
  pub histories : length s.history ≡ length p.calls
  pub buffers : (i : ℕ) (t : CompactThread F) → slice_get s.threads i ≡ Some t → Within size t.buffer
  pub fit : (i : ℕ) (t : CompactThread F) → slice_get s.threads i ≡ Some t → CallsFit sound t.core (calls_in s.history i)
  pub calls : (i number : ℕ) (c : Called) → slice_get (calls_in s.history i) number ≡ Some c → IsCallOf p s.history i number c
  pub prologue : (i j : ℕ) → p.prologue ≡ Some j → i ≢ j → HasStarted s i → is_thread_over p j (begun_by s j) (slice_get s.threads j) ≡ true
