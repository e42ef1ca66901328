-- The rules of the label machine once more, as a table with one row for each kind of label, for readers.
-- After the tables of Sewell, Sarkar, Owens, Zappa Nardelli, Myreen, "x86-TSO", CACM 53(7), 2010.
use Rattle.std.specs.Prelude.{◌≡◌, ℕ, suc, ◌⊎◌, ◌↔◌, [], ◌∷◌, ◌++◌, slice_set, Some, None}
use Rattle.tso_model.specs.Labels.{Call, Drain, Fault, Fence, HasLock, HasRead, HasWritten, Idle, Kind, Lock, Machine, Outside, Read, Reg, Return, Rule, Running, Stopped, Thread, Unblocked, Unlock, Write, next_call_in, update}
use Rattle.tso_model.specs.Programs.{Barrier, Fail, Load, Locked, Program, Ret, Silent, Store}
use Rattle.tso_model.specs.States.{Buffer, word_seen}

-- the machine m, whose thread i is t, may take a label of this kind, which leads to the machine m'
abbrev pub MayTake : {F : Type 0} → Program F → Machine F → ℕ → Thread F → Kind → Machine F → Type 0
-- an idle thread begins its next call, which starts at its first frame
MayTake P m i t (Call k) m' =
    (t.core ≡ Idle) × (next_call_in P m i t.begun ≡ Some k)
    × (m' ≡ update m i (record t { begun = suc t.begun; core = Running (P.start k) Outside }))
-- an instruction that touches no memory
MayTake {F} P m i t Reg m' =
    (f : F) × (g : F) × (t.core ≡ Running f Outside) × (P.next f ≡ Silent g)
    × (m' ≡ update m i (record t { core = Running g Outside }))
-- a load, or a locked instruction that has the lock: the newest own buffered word for the place, else memory's; not while another has the lock
MayTake {F} P m i t (Read p v) m' =
    (v ≡ word_seen t.buffer m.memory p) × Unblocked m i
    × (((f : F) × (k : ℕ → F) × (t.core ≡ Running f Outside) × (P.next f ≡ Load p k)
    × (m' ≡ update m i (record t { core = Running (k v) Outside })))
    ⊎ ((f : F) × (n : ℕ → ℕ) × (k : ℕ → F) × (t.core ≡ Running f HasLock) × (P.next f ≡ Locked p n k)
    × (m' ≡ update m i (record t { core = Running f (HasRead v) }))))
-- a store, or a locked instruction that has read: the entry goes to the end of the own buffer, lock or no lock
MayTake {F} P m i t (Write p v) m' =
    ((f : F) × (g : F) × (t.core ≡ Running f Outside) × (P.next f ≡ Store p v g)
    × (m' ≡ update m i (record t { core = Running g Outside; buffer = t.buffer ++ (p, v) ∷ [] })))
    ⊎ ((f : F) × (n : ℕ → ℕ) × (k : ℕ → F) × (old : ℕ) × (t.core ≡ Running f (HasRead old)) × (P.next f ≡ Locked p n k) × (v ≡ n old)
    × (m' ≡ update m i (record t { core = Running f (HasWritten old); buffer = t.buffer ++ (p, v) ∷ [] })))
-- the oldest entry of the buffer goes to memory; not while another thread has the lock
MayTake P m i t (Drain p v) m' =
    (rest : Buffer) × (t.buffer ≡ (p, v) ∷ rest) × Unblocked m i
    × (m' ≡ record m { memory = slice_set m.memory p v; threads = slice_set m.threads i (record t { buffer = rest }) })
-- a fence waits for the own buffer to drain
MayTake {F} P m i t Fence m' =
    (f : F) × (g : F) × (t.core ≡ Running f Outside) × (P.next f ≡ Barrier g) × (t.buffer ≡ [])
    × (m' ≡ update m i (record t { core = Running g Outside }))
-- a locked instruction takes the free lock, with an empty buffer
MayTake {F} P m i t Lock m' =
    (f : F) × (p : ℕ) × (n : ℕ → ℕ) × (k : ℕ → F) × (t.core ≡ Running f Outside) × (P.next f ≡ Locked p n k) × (m.lock ≡ None) × (t.buffer ≡ [])
    × (m' ≡ record m { lock = Some i; threads = slice_set m.threads i (record t { core = Running f HasLock }) })
-- it gives the lock back once its word has drained, and only now goes on to the next frame
MayTake {F} P m i t Unlock m' =
    (f : F) × (p : ℕ) × (n : ℕ → ℕ) × (k : ℕ → F) × (old : ℕ) × (t.core ≡ Running f (HasWritten old)) × (P.next f ≡ Locked p n k) × (m.lock ≡ Some i) × (t.buffer ≡ [])
    × (m' ≡ record m { lock = None; threads = slice_set m.threads i (record t { core = Running (k old) Outside }) })
-- a call returns, whatever its thread has buffered
MayTake {F} P m i t (Return a) m' =
    (f : F) × (t.core ≡ Running f Outside) × (P.next f ≡ Ret a)
    × (m' ≡ update m i (record t { core = Idle }))
-- a thread stops for good
MayTake {F} P m i t (Fault n) m' =
    (f : F) × (t.core ≡ Running f Outside) × (P.next f ≡ Fail n)
    × (m' ≡ update m i (record t { core = Stopped }))

-- the table and the rules are one relation
abbrev pub TableIsRules : Type 0 → Type 0
TableIsRules F = (P : Program F) (m : Machine F) (i : ℕ) (t : Thread F) (k : Kind) (m' : Machine F) → Rule P m i t k m' ↔ MayTake P m i t k m'
