-- What the rules mean, in the words of x86-TSO and over whole runs: laws that a reader can hold against the rules.
-- After the description in Sewell, Sarkar, Owens, Zappa Nardelli, Myreen, CACM 53(7), 2010.
use Rattle.std.specs.Prelude.{◌≡◌, ◌≢◌, ◌⊎◌, ℕ, ◌==◌, if◌then◌else◌, List, [], ◌∷◌, ◌++◌, Some, None, slice_get, slice_index_or, slice_set, take}
use Rattle.tso_model.specs.Events.{events_of, kinds_of}
use Rattle.tso_model.specs.Labels.{By, Call, Drain, Fence, Idle, Kind, Label, Lock, Machine, Read, Run, Step, Thread, Unlock, Write, first_machine}
use Rattle.tso_model.specs.Programs.{CallKind, Program, calls_of}
use Rattle.tso_model.specs.States.{Buffer}

-- what a step puts into its thread's buffer
abbrev pub entry_written : Kind → Buffer
entry_written (Write p v) = (p, v) ∷ []
entry_written _ = []

-- what leaves it
abbrev pub entry_drained : Kind → Buffer
entry_drained (Drain p v) = (p, v) ∷ []
entry_drained _ = []

-- what thread i puts into its buffer at a label
abbrev pub written : ℕ → Label → Buffer
written i (By j k) = if j == i then entry_written k else []

-- what leaves it
abbrev pub drained : ℕ → Label → Buffer
drained i (By j k) = if j == i then entry_drained k else []

-- what it puts there in a run, in order
abbrev pub all_written : ℕ → List Label → Buffer
all_written i [] = []
all_written i (l ∷ ls) = written i l ++ all_written i ls

-- what leaves, in order
abbrev pub all_drained : ℕ → List Label → Buffer
all_drained i [] = []
all_drained i (l ∷ ls) = drained i l ++ all_drained i ls

-- store buffers are first-in first-out: what a thread had buffered and then wrote is what it drained and still has buffered
abbrev pub BuffersAreQueues : Type 0 → Type 0
BuffersAreQueues F =
    (P : Program F) (m m' : Machine F) (ls : List Label) (i : ℕ) (t : Thread F) → Run P m ls m' → slice_get m.threads i ≡ Some t
    → (t' : Thread F) × (slice_get m'.threads i ≡ Some t') × (t.buffer ++ all_written i ls ≡ all_drained i ls ++ t'.buffer)

-- the memory after the label, as far as drains make it
abbrev pub stored : List ℕ → Label → List ℕ
stored memory (By i (Drain p v)) = slice_set memory p v
stored memory (By i _) = memory

-- and after these labels
abbrev pub all_stored : List ℕ → List Label → List ℕ
all_stored memory [] = memory
all_stored memory (l ∷ ls) = all_stored (stored memory l) ls

-- total store order: memory is what the drains of all threads, in their one order, make of it
abbrev pub MemoryIsStored : Type 0 → Type 0
MemoryIsStored F = (P : Program F) (m m' : Machine F) (ls : List Label) → Run P m ls m' → m'.memory ≡ all_stored m.memory ls

-- no entry is for the place
abbrev pub NoneFor : ℕ → Buffer → Type 0
NoneFor p [] = Unit {0}
NoneFor p (e ∷ rest) = e.0 ≢ p × NoneFor p rest

-- the word is that of the newest entry for the place, or the buffer has none and it is memory's
abbrev pub IsNewest : Buffer → List ℕ → ℕ → ℕ → Type 0
IsNewest buffer memory p v = ((older newer : Buffer) × (buffer ≡ older ++ (p, v) ∷ newer) × NoneFor p newer) ⊎ (NoneFor p buffer × (v ≡ slice_index_or memory p 0))

-- a thread reads its own newest store to the place, else memory
abbrev pub ReadsAreNewest : Type 0 → Type 0
ReadsAreNewest F =
    (P : Program F) (m m' : Machine F) (i p v : ℕ) (t : Thread F) → Step P m (By i (Read p v)) m' → slice_get m.threads i ≡ Some t → IsNewest t.buffer m.memory p v

-- a fence, a Lock and an Unlock wait for the own buffer to drain
abbrev pub WaitsForBuffer : Kind → Type 0
WaitsForBuffer Fence = Unit {0}
WaitsForBuffer Lock = Unit {0}
WaitsForBuffer Unlock = Unit {0}
WaitsForBuffer _ = ⊥

-- so they do
abbrev pub FencesWait : Type 0 → Type 0
FencesWait F =
    (P : Program F) (m m' : Machine F) (i : ℕ) (k : Kind) (t : Thread F) → Step P m (By i k) m' → WaitsForBuffer k → slice_get m.threads i ≡ Some t → t.buffer ≡ []

-- reads, drains and locked instructions wait while another thread holds the lock
abbrev pub WaitsForLock : Kind → Type 0
WaitsForLock (Read p v) = Unit {0}
WaitsForLock (Drain p v) = Unit {0}
WaitsForLock Lock = Unit {0}
WaitsForLock Unlock = Unit {0}
WaitsForLock _ = ⊥

-- so they do
abbrev pub BlockedThreadsWait : Type 0 → Type 0
BlockedThreadsWait F = (P : Program F) (m m' : Machine F) (i j : ℕ) (k : Kind) → Step P m (By i k) m' → m.lock ≡ Some j → WaitsForLock k → i ≡ j

-- the calls of a thread come in the program's order, as many as the machine counts
abbrev pub CallsComeInOrder : Type 0 → Type 0
CallsComeInOrder F =
    (P : Program F) (memory : List ℕ) (ls : List Label) (m : Machine F) (i : ℕ) (t : Thread F) → Run P (first_machine P memory) ls m
    → slice_get m.threads i ≡ Some t → kinds_of i (events_of ls) ≡ take t.begun (calls_of P i)

-- a call of another thread waits until that of the prologue is idle, with no call left and nothing buffered
abbrev pub CallsWaitForPrologue : Type 0 → Type 0
CallsWaitForPrologue F =
    (P : Program F) (m m' : Machine F) (i j : ℕ) (k : CallKind) (t : Thread F) → Step P m (By i (Call k)) m' → P.prologue ≡ Some j → i ≢ j
    → slice_get m.threads j ≡ Some t → (t.core ≡ Idle) × (slice_get (calls_of P j) t.begun ≡ None) × (t.buffer ≡ [])
