-- The rules of x86-TSO: which labels a machine may take, where each leads, and runs. After Sewell, Sarkar, Owens, Zappa Nardelli,
-- Myreen, CACM 53(7), 2010. Calls, returns and faults are added; and a locked instruction waits for the own buffer before it
-- takes the lock, so that older stores drain before it and not inside it.
use Rattle.std.specs.Prelude.{◌≡◌, ℕ, suc, ◌⊎◌, Bool, true, false, List, [], ◌∷◌, ◌++◌, map, slice_get, slice_set, Option, Some, None}
use Rattle.tso_model.specs.Programs.{CallKind, Answer, FaultKind, Silent, Load, Store, Barrier, Locked, Ret, Fail, Program, calls_of}
use Rattle.tso_model.specs.States.{Buffer, word_seen}
use Rattle.tso_model.specs.Prologue.{is_over, may_begin, call_if}
pub use Rattle.tso_model.specs.Machines.{Stage, Outside, HasLock, HasRead, HasWritten, Core, Idle, Running, Stopped, Thread, Machine}
pub use Rattle.tso_model.specs.Machines.{Kind, Call, Reg, Read, Write, Drain, Fence, Lock, Unlock, Return, Fault, Label, By}
pub use Rattle.tso_model.specs.Views.{after_label, after_labels, core_of, machine_of, thread_view, thread_views}

-- the thread is not blocked: no other holds the lock
abbrev pub Unblocked : {F : Type 0} → Machine F → ℕ → Type 0
Unblocked m i = (m.lock ≡ None) ⊎ (m.lock ≡ Some i)

-- the machine with this thread i
abbrev pub update : {F : Type 0} → Machine F → ℕ → Thread F → Machine F
update m i t = record m { threads = slice_set m.threads i t }

-- the thread is between calls
abbrev pub is_idle : {F : Type 0} → Core F → Bool
is_idle Idle = true
is_idle (Running f st) = false
is_idle Stopped = false

-- thread i is idle, with no call left and nothing buffered
abbrev pub is_over_in : {F : Type 0} → Program F → ℕ → Option (Thread F) → Bool
is_over_in p i None = true
is_over_in p i (Some t) = is_over (is_idle t.core) (slice_get (calls_of p i) t.begun) t.buffer

-- the call that thread i, of which so many have begun, may begin now, were it idle
abbrev pub next_call_in : {F : Type 0} → Program F → Machine F → ℕ → ℕ → Option CallKind
next_call_in p m i begun = call_if (may_begin p.prologue i (λ j. is_over_in p j (slice_get m.threads j))) (slice_get (calls_of p i) begun)

-- the machine m, whose thread i is t, may take a label of this kind and go on to the other machine
pub data Rule {F : Type 0} (P : Program F) (m : Machine F) (i : ℕ) (t : Thread F) : Kind → Machine F → Type 0 where
  -- an idle thread begins its next call
  call : (k : CallKind)
      → t.core ≡ Idle → next_call_in P m i t.begun ≡ Some k
      → Rule P m i t (Call k) (update m i (record t { begun = suc t.begun; core = Running (P.start k) Outside }))
  -- an instruction that touches no memory, at any time
  reg : (f g : F)
      → t.core ≡ Running f Outside → P.next f ≡ Silent g
      → Rule P m i t Reg (update m i (record t { core = Running g Outside }))
  -- a thread that is not blocked reads the newest own buffered word for the place, else memory's
  read : (f : F) (p : ℕ) (k : ℕ → F)
      → t.core ≡ Running f Outside → P.next f ≡ Load p k → Unblocked m i
      → Rule P m i t (Read p (word_seen t.buffer m.memory p)) (update m i (record t { core = Running (k (word_seen t.buffer m.memory p)) Outside }))
  -- a store goes to the end of the own buffer, at any time
  write : (f : F) (p v : ℕ) (g : F)
      → t.core ≡ Running f Outside → P.next f ≡ Store p v g
      → Rule P m i t (Write p v) (update m i (record t { core = Running g Outside; buffer = t.buffer ++ (p, v) ∷ [] }))
  -- the oldest entry of the buffer of a thread that is not blocked goes to memory
  drain : (p v : ℕ) (rest : Buffer)
      → t.buffer ≡ (p, v) ∷ rest → Unblocked m i
      → Rule P m i t (Drain p v) (record m { memory = slice_set m.memory p v; threads = slice_set m.threads i (record t { buffer = rest }) })
  -- a fence waits until the own buffer is empty
  fence : (f g : F)
      → t.core ≡ Running f Outside → P.next f ≡ Barrier g → t.buffer ≡ []
      → Rule P m i t Fence (update m i (record t { core = Running g Outside }))
  -- a locked instruction takes the lock where it is free and the own buffer is empty
  lock : (f : F) (p : ℕ) (n : ℕ → ℕ) (k : ℕ → F)
      → t.core ≡ Running f Outside → P.next f ≡ Locked p n k → m.lock ≡ None → t.buffer ≡ []
      → Rule P m i t Lock (record m { lock = Some i; threads = slice_set m.threads i (record t { core = Running f HasLock }) })
  -- with the lock it reads
  read_locked : (f : F) (p : ℕ) (n : ℕ → ℕ) (k : ℕ → F)
      → t.core ≡ Running f HasLock → P.next f ≡ Locked p n k → Unblocked m i
      → Rule P m i t (Read p (word_seen t.buffer m.memory p)) (update m i (record t { core = Running f (HasRead (word_seen t.buffer m.memory p)) }))
  -- then it puts the new word into the own buffer
  write_locked : (f : F) (p : ℕ) (n : ℕ → ℕ) (k : ℕ → F) (old : ℕ)
      → t.core ≡ Running f (HasRead old) → P.next f ≡ Locked p n k
      → Rule P m i t (Write p (n old)) (update m i (record t { core = Running f (HasWritten old); buffer = t.buffer ++ (p, n old) ∷ [] }))
  -- and once that has drained, it gives the lock back and goes on by the word that it read
  unlock : (f : F) (p : ℕ) (n : ℕ → ℕ) (k : ℕ → F) (old : ℕ)
      → t.core ≡ Running f (HasWritten old) → P.next f ≡ Locked p n k → m.lock ≡ Some i → t.buffer ≡ []
      → Rule P m i t Unlock (record m { lock = None; threads = slice_set m.threads i (record t { core = Running (k old) Outside }) })
  -- a call returns at any time, whatever is in the buffer
  return : (f : F) (a : Answer)
      → t.core ≡ Running f Outside → P.next f ≡ Ret a
      → Rule P m i t (Return a) (update m i (record t { core = Idle }))
  -- a thread whose next instruction is a fault stops
  fault : (f : F) (n : FaultKind)
      → t.core ≡ Running f Outside → P.next f ≡ Fail n
      → Rule P m i t (Fault n) (update m i (record t { core = Stopped }))

-- the machine may take the label and go on to the other machine
abbrev pub Step : {F : Type 0} → Program F → Machine F → Label → Machine F → Type 0
Step {F} P m (By i k) m' = (t : Thread F) × (slice_get m.threads i ≡ Some t) × Rule P m i t k m'

-- a list of labels leads from one machine to the other
abbrev pub Run : {F : Type 0} → Program F → Machine F → List Label → Machine F → Type 0
Run P m [] m' = m' ≡ m
Run {F} P m (l ∷ ls) m' = (mid : Machine F) × Step P m l mid × Run P mid ls m'

-- no label follows: the run that led here is ended
abbrev pub Ended : {F : Type 0} → Program F → Machine F → Type 0
Ended {F} P m = (l : Label) (m' : Machine F) → Step P m l m' → ⊥

-- nothing has begun, nothing is buffered, and the lock is free
abbrev pub first_machine : {F : Type 0} → Program F → List ℕ → Machine F
first_machine P memory = record { memory = memory; lock = None; threads = map (λ ks. record { begun = 0; core = Idle; buffer = [] }) P.calls }
