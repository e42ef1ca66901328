-- The label machine as a function: the one label, if any, that a thread's core, or its buffer, has next, and where it leads.
use Rattle.std.specs.Prelude.{◌≡◌, ◌↔◌, ℕ, suc, ◌==◌, if◌then◌else◌, [], ◌∷◌, ◌++◌, slice_get, slice_set}
use Rattle.std.specs.Prelude.{Option, Some, None}
use Rattle.tso_model.specs.Labels.{Running, Idle, By, Call, Drain, Fault, Fence, Stopped, HasLock, HasRead, HasWritten, Kind, Label, Lock, Core, Thread, Machine, Outside, Read, Reg, Return, Stage, Step, Unlock, Write, next_call_in, update}
use Rattle.tso_model.specs.Programs.{Action, Barrier, CallKind, Cut, Fail, Load, Locked, Program, Ret, Silent, Store}
use Rattle.tso_model.specs.States.{Buffer, word_seen}
use Rattle.tso_model.specs.Steps.{Actor, Drains, Exec}

-- a label's kind, and the machine after it
pub record Next (F : Type 0) : Type 0 where
  pub kind : Kind
  pub machine : Machine F

-- only with an empty buffer
abbrev pub if_empty : {F : Type 0} → Buffer → Option (Next F) → Option (Next F)
if_empty [] x = x
if_empty (e ∷ rest) x = None

-- only while the lock is free
abbrev pub if_free : {F : Type 0} → Option ℕ → Option (Next F) → Option (Next F)
if_free None x = x
if_free (Some j) x = None

-- only while the thread itself holds the lock
abbrev pub if_held : {F : Type 0} → Option ℕ → ℕ → Next F → Option (Next F)
if_held None i x = None
if_held (Some j) i x = if j == i then Some x else None

-- only while no other thread holds the lock
abbrev pub if_unblocked : {F : Type 0} → Option ℕ → ℕ → Next F → Option (Next F)
if_unblocked None i x = Some x
if_unblocked (Some j) i x = if j == i then Some x else None

-- a call that may begin now begins
abbrev pub offer_call : {F : Type 0} → Program F → Machine F → ℕ → Thread F → Option CallKind → Option (Next F)
offer_call P m i t None = None
offer_call P m i t (Some k) = Some (record { kind = Call k; machine = update m i (record t { begun = suc t.begun; core = Running (P.start k) Outside }) })

-- the next instruction, of a thread in no locked instruction
abbrev pub offer_outside : {F : Type 0} → Machine F → ℕ → Thread F → F → Action F → Option (Next F)
offer_outside m i t f (Silent g) = Some (record { kind = Reg; machine = update m i (record t { core = Running g Outside }) })
offer_outside m i t f (Load p k) =
    if_unblocked m.lock i (record { kind = Read p (word_seen t.buffer m.memory p); machine = update m i (record t { core = Running (k (word_seen t.buffer m.memory p)) Outside }) })
offer_outside m i t f (Store p v g) = Some (record { kind = Write p v; machine = update m i (record t { core = Running g Outside; buffer = t.buffer ++ (p, v) ∷ [] }) })
offer_outside m i t f (Barrier g) = if_empty t.buffer (Some (record { kind = Fence; machine = update m i (record t { core = Running g Outside }) }))
offer_outside m i t f (Locked p n k) =
    if_free m.lock (if_empty t.buffer (Some (record { kind = Lock; machine = record m { lock = Some i; threads = slice_set m.threads i (record t { core = Running f HasLock }) } })))
offer_outside m i t f (Ret a) = Some (record { kind = Return a; machine = update m i (record t { core = Idle }) })
offer_outside m i t f (Fail n) = Some (record { kind = Fault n; machine = update m i (record t { core = Stopped }) })
offer_outside m i t f Cut = None

-- the next label of a locked instruction: Read, Write, and with an empty buffer Unlock
abbrev pub offer_locked : {F : Type 0} → Machine F → ℕ → Thread F → F → (ℕ → ℕ) → ℕ → (ℕ → F) → Stage → Option (Next F)
offer_locked m i t f n p k Outside = None
offer_locked m i t f n p k HasLock =
    if_unblocked m.lock i (record { kind = Read p (word_seen t.buffer m.memory p); machine = update m i (record t { core = Running f (HasRead (word_seen t.buffer m.memory p)) }) })
offer_locked m i t f n p k (HasRead old) =
    Some (record { kind = Write p (n old); machine = update m i (record t { core = Running f (HasWritten old); buffer = t.buffer ++ (p, n old) ∷ [] }) })
offer_locked m i t f n p k (HasWritten old) =
    if_empty t.buffer (if_held m.lock i (record { kind = Unlock; machine = record m { lock = None; threads = slice_set m.threads i (record t { core = Running (k old) Outside }) } }))

-- the same, where the next instruction is a locked one
abbrev pub offer_within : {F : Type 0} → Machine F → ℕ → Thread F → F → Stage → Action F → Option (Next F)
offer_within m i t f st (Locked p n k) = offer_locked m i t f n p k st
offer_within m i t f st _ = None

-- a running thread, by its stage
abbrev pub offer_running : {F : Type 0} → Program F → Machine F → ℕ → Thread F → F → Stage → Option (Next F)
offer_running P m i t f Outside = offer_outside m i t f (P.next f)
offer_running P m i t f HasLock = offer_within m i t f HasLock (P.next f)
offer_running P m i t f (HasRead v) = offer_within m i t f (HasRead v) (P.next f)
offer_running P m i t f (HasWritten v) = offer_within m i t f (HasWritten v) (P.next f)

-- the core's label
abbrev pub offer_core : {F : Type 0} → Program F → Machine F → ℕ → Thread F → Core F → Option (Next F)
offer_core P m i t Idle = offer_call P m i t (next_call_in P m i t.begun)
offer_core P m i t (Running f st) = offer_running P m i t f st
offer_core P m i t Stopped = None

-- the core's label of thread i, if there is such a thread
abbrev pub offer_exec : {F : Type 0} → Program F → Machine F → ℕ → Option (Thread F) → Option (Next F)
offer_exec P m i None = None
offer_exec P m i (Some t) = offer_core P m i t t.core

-- the oldest entry drains, unless another thread holds the lock
abbrev pub offer_entry : {F : Type 0} → Machine F → ℕ → Thread F → Buffer → Option (Next F)
offer_entry m i t [] = None
offer_entry m i t (e ∷ rest) =
    if_unblocked m.lock i (record { kind = Drain e.0 e.1; machine = record m { memory = slice_set m.memory e.0 e.1; threads = slice_set m.threads i (record t { buffer = rest }) } })

-- the buffer's label of thread i, if there is such a thread
abbrev pub offer_drain : {F : Type 0} → Machine F → ℕ → Option (Thread F) → Option (Next F)
offer_drain m i None = None
offer_drain m i (Some t) = offer_entry m i t t.buffer

-- what the actor's label would be, and lead to
abbrev pub offer : {F : Type 0} → Program F → Machine F → Actor → Option (Next F)
offer P m (Exec i) = offer_exec P m i (slice_get m.threads i)
offer P m (Drains i) = offer_drain m i (slice_get m.threads i)

-- whose label it is
abbrev pub actor_of : Label → Actor
actor_of (By i (Drain p v)) = Drains i
actor_of (By i _) = Exec i

-- a label is a step exactly where its actor offers it
abbrev pub StepsAreOffers : Type 0 → Type 0
StepsAreOffers F =
    (P : Program F) (m : Machine F) (i : ℕ) (k : Kind) (m' : Machine F)
    → Step P m (By i k) m' ↔ (offer P m (actor_of (By i k)) ≡ Some (record { kind = k; machine = m' }))
