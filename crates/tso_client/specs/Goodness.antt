-- Goodness goes down: where all runs of a program are good, so are all runs of each program that it covers.
use Rattle.std.specs.Prelude.{ℕ, ◌≤◌, List}
use Rattle.tso_model.specs.Certificate.{IsGood}
use Rattle.tso_model.specs.Labels.{Label, Machine, Run, first_machine}
use Rattle.tso_model.specs.Objects.{Allows, Mode, Object, Queue, Weak}
use Rattle.tso_model.specs.Programs.{Answer, CallKind, Program}
use Rattle.tso_client.specs.Covering.{Covers}

-- every run from this memory is good, ended or not
abbrev pub AllRunsAreGood : {F : Type 0} → Program F → List ℕ → Object → Type 0
AllRunsAreGood {F} P memory object = (ls : List Label) (m : Machine F) → Run P (first_machine P memory) ls m → IsGood object ls

-- THE LAW: the good runs of a program answer for those of each program that it covers, whatever memory holds at first
abbrev pub CoveredRunsAreGood : Type 0 → Type 0
CoveredRunsAreGood F =
    (P Q : Program F) → Covers P Q → (memory : List ℕ) (object : Object) → AllRunsAreGood Q memory object → AllRunsAreGood P memory object

-- a program covers itself
abbrev pub ProgramsCoverThemselves : Type 0 → Type 0
ProgramsCoverThemselves F = (P : Program F) → Covers P P

-- what covers a program covers all that this one covers
abbrev pub CoversIsTransitive : Type 0 → Type 0
CoversIsTransitive F = (P Q R : Program F) → Covers P Q → Covers Q R → Covers P R

-- what the first object allows, the second allows
abbrev pub IsLooser : Object → Object → Type 0
IsLooser a b = (calls : List (CallKind × Answer)) → Allows a calls → Allows b calls

-- a run that is good for an object is good for each looser one
abbrev pub LooserObjectsServe : Type 0
LooserObjectsServe = (a b : Object) → IsLooser a b → (ls : List Label) → IsGood a ls → IsGood b ls

-- a weak queue is looser than each queue of no more room
abbrev pub WeakQueuesAreLooser : Type 0
WeakQueuesAreLooser = (mode : Mode) (capacity room : ℕ) → capacity ≤ room → IsLooser (Queue mode capacity) (Queue Weak room)
