-- Faults of threads, in a run's labels and in what the run leads to.
use Rattle.std.specs.Prelude.{◌≡◌, ◌⊎◌, ℕ, List, [], ◌∷◌, slice_get, Some}
use Rattle.tso_model.specs.Labels.{By, Fault, Label, Machine, Run, Stopped, Thread, first_machine}
use Rattle.tso_model.specs.Programs.{Program}
use Rattle.tso_model.specs.States.{CompactThread, Halted, State}

-- the label is a fault of the thread
abbrev pub IsFaultOf : Label → ℕ → Type 0
IsFaultOf (By j (Fault n)) i = j ≡ i
IsFaultOf (By j _) i = ⊥

-- some label of the list is one
abbrev pub HasFaultOf : List Label → ℕ → Type 0
HasFaultOf [] i = ⊥
HasFaultOf (l ∷ ls) i = IsFaultOf l i ⊎ HasFaultOf ls i

-- the thread of the compact state is stopped
abbrev pub IsStoppedIn : {F : Type 0} → State F → ℕ → Type 0
IsStoppedIn {F} c i = (t : CompactThread F) × (slice_get c.threads i ≡ Some t) × (t.core ≡ Halted)

-- the thread of the machine is stopped
abbrev pub IsStoppedAt : {F : Type 0} → Machine F → ℕ → Type 0
IsStoppedAt {F} m i = (t : Thread F) × (slice_get m.threads i ≡ Some t) × (t.core ≡ Stopped)

-- a stopped thread stays stopped, whatever follows
abbrev pub StopsAreFinal : Type 0 → Type 0
StopsAreFinal F = (P : Program F) (m m' : Machine F) (ls : List Label) (i : ℕ) → Run P m ls m' → IsStoppedAt m i → IsStoppedAt m' i

-- after a fault its thread is stopped, however the run goes on
abbrev pub FaultsStop : Type 0 → Type 0
FaultsStop F = (P : Program F) (m m' : Machine F) (ls : List Label) (i : ℕ) → Run P m ls m' → HasFaultOf ls i → IsStoppedAt m' i

-- a thread that is stopped after a run has a fault in it
abbrev pub StopsAreFaults : Type 0 → Type 0
StopsAreFaults F =
    (P : Program F) (memory : List ℕ) (ls : List Label) (m : Machine F) (i : ℕ) (t : Thread F) → Run P (first_machine P memory) ls m
    → slice_get m.threads i ≡ Some t → t.core ≡ Stopped → HasFaultOf ls i
