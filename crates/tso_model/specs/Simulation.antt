-- Runs of labels and runs of compact steps: each is followed by the other, and both end alike.
use Rattle.std.specs.Prelude.{◌≡◌, ℕ, Bool, ◌≤◌, ◌⊎◌, List, ◌++◌, length, take, Some}
use Rattle.tso_model.specs.Faults.{HasFaultOf, IsStoppedIn}
use Rattle.tso_model.specs.Labels.{Ended, Label, Machine, Run, after_labels, first_machine, machine_of}
use Rattle.tso_model.specs.Measure.{IsRanked}
use Rattle.tso_model.specs.Programs.{CallKind, Program}
use Rattle.tso_model.specs.Reduce.{Over, Steps}
use Rattle.tso_model.specs.Relation.{Belongs}
use Rattle.tso_model.specs.StepLabels.{labels_of}
use Rattle.tso_model.specs.States.{State, first_history, first_state}
use Rattle.tso_model.specs.Steps.{Actor, Exec, step}

-- compact steps lead from c to a state with the history that the labels give, and to which m belongs
pub record Followed {F : Type 0} (P : Program F) (c : State F) (ls : List Label) (m : Machine F) : Type 0 where
  pub actors : List Actor
  pub state : State F
  pub steps : Steps (step P) c actors state
  pub belongs : Belongs P m state
  pub same : state.history ≡ after_labels c.history ls

-- every run, ended or not, is one of compact steps
abbrev pub RunsAreFollowed : Type 0 → Type 0
RunsAreFollowed F =
    (P : Program F) (memory : List ℕ) (ls : List Label) (m : Machine F)
    → Run P (first_machine P memory) ls m → Followed P (first_state P memory) ls m

-- the first labels, one to four, of a thread's locked instruction lead from c's machine part to m
pub record IsPartway {F : Type 0} (P : Program F) (m : Machine F) (c : State F) : Type 0 where
  pub holder : ℕ
  pub count : ℕ
  pub at_least : 1 ≤ count
  pub at_most : count ≤ 4
  pub five : length (labels_of P c (Exec holder)) ≡ 5
  pub held : m.lock ≡ Some holder
  pub run : Run P (machine_of c) (take count (labels_of P c (Exec holder))) m

-- what it is to belong, by labels alone
abbrev pub BelongsByLabels : Type 0 → Type 0
BelongsByLabels F = (P : Program F) (m : Machine F) (c : State F) → Belongs P m c → (m ≡ machine_of c) ⊎ IsPartway P m c

-- where no label follows, the lock is free and no actor has a step
abbrev pub EndsAreEnds : Type 0 → Type 0
EndsAreEnds F =
    (P : Program F) (m : Machine F) (c : State F)
    → Belongs P m c → Ended P m → (m ≡ machine_of c) × Over (step P) c

-- compact steps with the run's history lead to an end, whose machine part is the run's machine
pub record EndsAlike {F : Type 0} (P : Program F) (c : State F) (ls : List Label) (m : Machine F) : Type 0 where
  pub actors : List Actor
  pub state : State F
  pub steps : Steps (step P) c actors state
  pub over : Over (step P) state
  pub machine : m ≡ machine_of state
  pub same : state.history ≡ after_labels c.history ls

-- every ended run is one of compact steps, with the same history and end
abbrev pub EndedRunsEndAlike : Type 0 → Type 0
EndedRunsEndAlike F =
    (P : Program F) (memory : List ℕ) (ls : List Label) (m : Machine F)
    → Run P (first_machine P memory) ls m → Ended P m → EndsAlike P (first_state P memory) ls m

-- a run goes on to an end that compact steps reach too, with the same history, and each of its faults shows there
pub record ReachesEnd {F : Type 0} (P : Program F) (memory : List ℕ) (ls : List Label) : Type 0 where
  pub more : List Label
  pub actors : List Actor
  pub state : State F
  pub steps : Steps (step P) (first_state P memory) actors state
  pub over : Over (step P) state
  pub run : Run P (first_machine P memory) (ls ++ more) (machine_of state)
  pub same : state.history ≡ after_labels (first_history P) (ls ++ more)
  pub faults : (i : ℕ) → HasFaultOf ls i → IsStoppedIn state i

-- every run does, where a rank falls at each instruction
abbrev pub RunsReachEnds : Type 0 → Type 0
RunsReachEnds F =
    (P : Program F) (size : ℕ) (sound : CallKind → F → Bool) (rank : F → ℕ) → IsRanked P size sound rank
    → (memory : List ℕ) (ls : List Label) (m : Machine F) → Run P (first_machine P memory) ls m → ReachesEnd P memory ls
