-- What a path of compact steps shows of the runs of labels.
use Rattle.std.specs.Prelude.{ℕ, ◌⊎◌, List}
use Rattle.tso_model.specs.Certificate.{IsGood}
use Rattle.tso_model.specs.Events.{events_of}
use Rattle.tso_model.specs.Labels.{Label, Run, first_machine, machine_of}
use Rattle.tso_model.specs.Linear.{IsLinearization, IsOrder, Placed}
use Rattle.tso_model.specs.Objects.{Object}
use Rattle.tso_model.specs.Programs.{Program}
use Rattle.tso_model.specs.Reduce.{Steps}
use Rattle.tso_model.specs.Faults.{HasFaultOf, IsStoppedIn}
use Rattle.tso_model.specs.States.{State, first_state}
use Rattle.tso_model.specs.Steps.{Actor, step}

-- a run that leads to the state's machine part, with a fault of each thread that is stopped there, and whose linearizations
-- are orders of the state's history: so it is not good where a thread is stopped or no order exists
pub record IsShown {F : Type 0} (P : Program F) (memory : List ℕ) (object : Object) (d : State F) : Type 0 where
  pub labels : List Label
  pub run : Run P (first_machine P memory) labels (machine_of d)
  pub faults : (i : ℕ) → IsStoppedIn d i → HasFaultOf labels i
  pub orders : (order : List Placed) → IsLinearization object (events_of labels) order → IsOrder object d.history order

-- each path of compact steps from the initial state is shown by a run
abbrev pub PathsAreShown : Type 0 → Type 0
PathsAreShown F =
    (P : Program F) (memory : List ℕ) (object : Object) (actors : List Actor) (d : State F) → Steps (step P) (first_state P memory) actors d → IsShown P memory object d

-- a thread is stopped, or the history has no order
abbrev pub IsBad : {F : Type 0} → Object → State F → Type 0
IsBad object d = ((i : ℕ) × IsStoppedIn d i) ⊎ ((order : List Placed) → IsOrder object d.history order → ⊥)

-- so a path to such a state is shown by a run that is not good
abbrev pub BadPathsAreErrors : Type 0 → Type 0
BadPathsAreErrors F =
    (P : Program F) (memory : List ℕ) (object : Object) (actors : List Actor) (d : State F) → Steps (step P) (first_state P memory) actors d → IsBad object d
    → (ls : List Label) × Run P (first_machine P memory) ls (machine_of d) × (IsGood object ls → ⊥)
