-- A table of what may still be read and written from each frame, and what it says of a thread's future.
use Rattle.std.specs.Prelude.{ℕ, ◌==◌, ◌||◌, List, [], ◌∷◌, Option, Some, None, Bool, false, IsTrue, slice_get}
use Rattle.std.proofs.Common.{drop}
use Rattle.tso_model.specs.Measure.{IsSound}
use Rattle.tso_model.specs.Programs.{Action, Barrier, CallKind, Cut, Fail, Load, Locked, Program, Ret, Silent, Store, calls_of}
use Rattle.tso_model.specs.Reasons.{Future}
use Rattle.tso_model.specs.States.{Buffer, CompactCore, Resting, Executing, State, Halted, CompactThread, begun_by}

-- for each frame, the places that may still be read and written from it until the call ends
pub record Table (F : Type 0) : Type 0 where
  pub reads : F → ℕ → Bool
  pub writes : F → ℕ → Bool

-- all that may be read and written from g may be from f
pub record Below {F : Type 0} (t : Table F) (g f : F) : Type 0 where
  pub reads : (place : ℕ) → IsTrue (t.reads g place) → IsTrue (t.reads f place)
  pub writes : (place : ℕ) → IsTrue (t.writes g place) → IsTrue (t.writes f place)

-- a frame's masks hold its own instruction's accesses and its successors' masks
abbrev pub IsClosedAt : {F : Type 0} → Table F → F → Action F → Type 0
IsClosedAt t f (Silent g) = Below t g f
IsClosedAt t f (Load p k) = IsTrue (t.reads f p) × ((w : ℕ) → Below t (k w) f)
IsClosedAt t f (Store p v g) = IsTrue (t.writes f p) × Below t g f
IsClosedAt t f (Barrier g) = Below t g f
IsClosedAt t f (Locked p new k) = IsTrue (t.reads f p) × IsTrue (t.writes f p) × ((w : ℕ) → Below t (k w) f)
IsClosedAt t f (Ret a) = Unit {0}
IsClosedAt t f (Fail n) = Unit {0}
IsClosedAt t f Cut = Unit {0}

-- at each frame that can occur
abbrev pub IsTableClosed : {F : Type 0} → Program F → (CallKind → F → Bool) → Table F → Type 0
IsTableClosed {F} p sound t = (f : F) → IsSound sound f → IsClosedAt t f (p.next f)

-- some of these calls has it from its start
abbrev pub some_call : {F : Type 0} → Program F → (F → ℕ → Bool) → List CallKind → ℕ → Bool
some_call p mask [] place = false
some_call p mask (k ∷ ks) place = mask (p.start k) place || some_call p mask ks place

-- of a core with these calls still to begin
abbrev pub core_has : {F : Type 0} → Program F → (F → ℕ → Bool) → List CallKind → CompactCore F → ℕ → Bool
core_has p mask calls Resting place = some_call p mask calls place
core_has p mask calls (Executing f) place = mask f place || some_call p mask calls place
core_has p mask calls Halted place = false

-- an entry of the buffer is for the place
abbrev pub buffer_has : Buffer → ℕ → Bool
buffer_has [] place = false
buffer_has (e ∷ rest) place = e.0 == place || buffer_has rest place

-- what a thread may still read: from its frame, and in its calls to come
abbrev pub thread_reads : {F : Type 0} → Program F → Table F → List CallKind → Option (CompactThread F) → ℕ → Bool
thread_reads p t calls None place = false
thread_reads p t calls (Some th) place = core_has p t.reads calls th.core place

-- what it may still write: the same, and what is in its buffer
abbrev pub thread_writes : {F : Type 0} → Program F → Table F → List CallKind → Option (CompactThread F) → ℕ → Bool
thread_writes p t calls None place = false
thread_writes p t calls (Some th) place = core_has p t.writes calls th.core place || buffer_has th.buffer place

-- the calls of thread i that have not begun
abbrev pub calls_left : {F : Type 0} → Program F → State F → ℕ → List CallKind
calls_left p s i = drop (begun_by s i) (calls_of p i)

-- thread i may still read the place
abbrev pub future_reads : {F : Type 0} → Program F → Table F → State F → ℕ → ℕ → Bool
future_reads p t s i place = thread_reads p t (calls_left p s i) (slice_get s.threads i) place

-- thread i may still write the place, its buffer's drains included
abbrev pub future_writes : {F : Type 0} → Program F → Table F → State F → ℕ → ℕ → Bool
future_writes p t s i place = thread_writes p t (calls_left p s i) (slice_get s.threads i) place

-- both, of each thread
abbrev pub table_future : {F : Type 0} → Program F → Table F → Future F
table_future p t = record { reads = future_reads p t; writes = future_writes p t }
