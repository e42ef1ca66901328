-- The labels of a compact step, all of its thread: one, or the five of a locked instruction.
use Rattle.std.specs.Prelude.{◌≡◌, ◌↔◌, ℕ, List, [], ◌∷◌, slice_get, slice_index_or, Option, Some, None}
use Rattle.tso_model.specs.Labels.{By, Call, Drain, Fault, Fence, Label, Lock, Read, Reg, Return, Run, Unlock, Write, after_labels, machine_of}
use Rattle.tso_model.specs.Offers.{offer}
use Rattle.tso_model.specs.Programs.{Action, Barrier, CallKind, Cut, Fail, Load, Locked, Program, Ret, Silent, Store}
use Rattle.tso_model.specs.Prologue.{next_call}
use Rattle.tso_model.specs.Reduce.{Steps}
use Rattle.tso_model.specs.Relation.{IsShaped}
use Rattle.tso_model.specs.States.{Buffer, CompactCore, Resting, Executing, State, Halted, CompactThread, word_seen}
use Rattle.tso_model.specs.Steps.{Actor, Drains, Exec, step}

-- the labels of the thread's next instruction
abbrev pub labels_of_action : {F : Type 0} → List ℕ → ℕ → Buffer → Action F → List Label
labels_of_action memory i b (Silent g) = By i Reg ∷ []
labels_of_action memory i b (Load p k) = By i (Read p (word_seen b memory p)) ∷ []
labels_of_action memory i b (Store p v g) = By i (Write p v) ∷ []
labels_of_action memory i b (Barrier g) = By i Fence ∷ []
labels_of_action memory i b (Locked p n k) =
    By i Lock ∷ By i (Read p (slice_index_or memory p 0)) ∷ By i (Write p (n (slice_index_or memory p 0))) ∷ By i (Drain p (n (slice_index_or memory p 0))) ∷ By i Unlock ∷ []
labels_of_action memory i b (Ret a) = By i (Return a) ∷ []
labels_of_action memory i b (Fail n) = By i (Fault n) ∷ []
labels_of_action memory i b Cut = []

-- of its next call
abbrev pub labels_of_call : ℕ → Option CallKind → List Label
labels_of_call i None = []
labels_of_call i (Some k) = By i (Call k) ∷ []

-- of what its core does next
abbrev pub labels_of_core : {F : Type 0} → Program F → State F → ℕ → Buffer → CompactCore F → List Label
labels_of_core P c i b Resting = labels_of_call i (next_call P c i)
labels_of_core P c i b (Executing f) = labels_of_action c.memory i b (P.next f)
labels_of_core P c i b Halted = []

-- of thread i's core, if there is such a thread
abbrev pub labels_of_exec : {F : Type 0} → Program F → State F → ℕ → Option (CompactThread F) → List Label
labels_of_exec P c i None = []
labels_of_exec P c i (Some t) = labels_of_core P c i t.buffer t.core

-- of the oldest entry of a buffer
abbrev pub labels_of_entry : ℕ → Buffer → List Label
labels_of_entry i [] = []
labels_of_entry i (e ∷ rest) = By i (Drain e.0 e.1) ∷ []

-- of thread i's buffer, if there is such a thread
abbrev pub labels_of_drain : {F : Type 0} → ℕ → Option (CompactThread F) → List Label
labels_of_drain i None = []
labels_of_drain i (Some t) = labels_of_entry i t.buffer

-- the labels of an actor's compact step, all of its thread
abbrev pub labels_of : {F : Type 0} → Program F → State F → Actor → List Label
labels_of P c (Exec i) = labels_of_exec P c i (slice_get c.threads i)
labels_of P c (Drains i) = labels_of_drain i (slice_get c.threads i)

-- each compact step is a run of its labels
abbrev pub StepsAreRuns : Type 0 → Type 0
StepsAreRuns F =
    (P : Program F) (c : State F) (a : Actor) (d : State F)
    → IsShaped c → step P c a ≡ Some d → Run P (machine_of c) (labels_of P c a) (machine_of d)

-- a list of compact steps is a run of labels too, with the same history
abbrev pub StepsGiveRuns : Type 0 → Type 0
StepsGiveRuns F =
    (P : Program F) (c : State F) (actors : List Actor) (d : State F) → IsShaped c → Steps (step P) c actors d
    → (ls : List Label) × Run P (machine_of c) ls (machine_of d) × (d.history ≡ after_labels c.history ls) × IsShaped d

-- an actor has no compact step exactly where it has no label
abbrev pub ActorsAgree : Type 0 → Type 0
ActorsAgree F =
    (P : Program F) (c : State F) (a : Actor)
    → IsShaped c → (step P c a ≡ None) ↔ (offer P (machine_of c) a ≡ None)
