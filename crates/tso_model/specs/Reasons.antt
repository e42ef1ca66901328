-- Why a chosen actor's step may be taken before another thread's steps: the dependency relation of the persistent choices of
-- Godefroid, LNCS 1032, 1996, as six reasons over what each thread may still read and write.
use Rattle.std.specs.Prelude.{◌≡◌, ◌≢◌, ℕ, ◌<◌, List, [], ◌∷◌, Some, None, ◌⊎◌, length, slice_get, Bool, IsTrue}
use Rattle.tso_model.specs.Accesses.{Reads, Writes}
use Rattle.tso_model.specs.Programs.{Answer, CallKind, Cut, Program, calls_of}
use Rattle.tso_model.specs.Reduce.{Has}
use Rattle.tso_model.specs.States.{Answered, Began, Buffer, CompactCore, Resting, Log, Executing, Same, State, Halted, CompactThread, begun_by}
use Rattle.tso_model.specs.Steps.{Access, Actor, Exec, Move, Nothing, move, step, thread_of}

-- what each thread may still read and write in the memory
pub record Future (F : Type 0) : Type 0 where
  pub reads : State F → ℕ → ℕ → Bool
  pub writes : State F → ℕ → ℕ → Bool

-- at such states, a thread's accesses now are in it, and no step adds to it
pub record IsFuture {F : Type 0} (p : Program F) (W : State F → Type 0) (f : Future F) : Type 0 where
  pub reads_now : (s : State F) (a : Actor) (m : Move F) (place : ℕ) → W s → move p s a ≡ Some m → Reads m.access place → IsTrue (f.reads s (thread_of a) place)
  pub writes_now : (s : State F) (a : Actor) (m : Move F) (place : ℕ) → W s → move p s a ≡ Some m → Writes m.access place → IsTrue (f.writes s (thread_of a) place)
  pub reads_shrink : (s s' : State F) (a : Actor) (thread place : ℕ) → W s → step p s a ≡ Some s' → IsTrue (f.reads s' thread place) → IsTrue (f.reads s thread place)
  pub writes_shrink : (s s' : State F) (a : Actor) (thread place : ℕ) → W s → step p s a ≡ Some s' → IsTrue (f.writes s' thread place) → IsTrue (f.writes s thread place)

-- why: the step is the thread's own business; the other thread's future is far from its access; all that the other thread can do
-- is chosen; its core is chosen and its buffer is elsewhere; the step is a return; it is a call, and the other thread returns no more
pub data Reason : Type 0 where
  Own Far Inside Buffered Returns NoReturn : Reason

-- the thread begins no further call and runs no further instruction: of its steps drains alone are left
abbrev pub IsDone : {F : Type 0} → Program F → List CallKind → ℕ → CompactCore F → Type 0
IsDone p calls begun Resting = slice_get calls begun ≡ None
IsDone p calls begun Halted = Unit {0}
IsDone p calls begun (Executing f) = p.next f ≡ Cut

-- an entry of the buffer is for the place
abbrev pub InBuffer : Buffer → ℕ → Type 0
InBuffer [] place = ⊥
InBuffer (e ∷ rest) place = (e.0 ≡ place) ⊎ InBuffer rest place

-- the reason holds at a state, for a chosen actor whose step there has this access and this entry in the history, and another thread
abbrev pub Holds : {F : Type 0} (p : Program F) → Future F → State F → List Actor → Access → Log → ℕ → Reason → Type 0
-- the step touches no memory, and begins and ends no call
Holds p f s chosen access log j Own = (access ≡ Nothing) × (log ≡ Same)
-- the other thread's future writes avoid what the step reads, and its future reads and writes what the step writes
Holds p f s chosen access log j Far = (log ≡ Same) × ((place : ℕ) → Reads access place → IsTrue (f.writes s j place) → ⊥) ×
    ((place : ℕ) → Writes access place → IsTrue (f.reads s j place) → ⊥) × ((place : ℕ) → Writes access place → IsTrue (f.writes s j place) → ⊥)
-- each actor of the other thread is chosen, or has no step
Holds {F} p f s chosen access log j Inside = (b : Actor) → thread_of b ≡ j → Has chosen b ⊎ (move p s b ≡ None)
-- the other thread's core is chosen, and its buffer has no entry for the step's place
Holds {F} p f s chosen access log j Buffered = Has chosen (Exec j) ×
    ((t : CompactThread F) (place : ℕ) → slice_get s.threads j ≡ Some t → InBuffer t.buffer place → (Reads access place → ⊥) × (Writes access place → ⊥))
-- the step is a return
Holds p f s chosen access log j Returns = (access ≡ Nothing) × ((a : Answer) × (log ≡ Answered a))
-- the step is a call, and the other thread is done
Holds {F} p f s chosen access log j NoReturn = (access ≡ Nothing) × ((k : CallKind) × (log ≡ Began k)) ×
    ((t : CompactThread F) → slice_get s.threads j ≡ Some t → IsDone p (calls_of p j) (begun_by s j) t.core)

-- a chosen actor has a step, and a reason for each other thread
abbrev pub Valid : {F : Type 0} (p : Program F) → Future F → State F → List Actor → Actor → Type 0
Valid {F} p f s chosen a = (m : Move F) × (move p s a ≡ Some m) ×
    ((j : ℕ) → j < length s.threads → j ≢ thread_of a → (r : Reason) × Holds p f s chosen m.access m.log j r)
