-- The litmus tests, each by its schedule.
use Rattle.std.proofs.Common.{ℕ, List, [], ◌∷◌, refl, arith}
use Rattle.std.proofs.lemmas.Option.{none-some}
use Rattle.tso_client.specs.Litmus.{BothReadZero, FencesWaitHere, LocksHoldHere, ReturnsAreNoDrains, both_zero, buffering, fencing, late_drain, locking, publishing}
use Rattle.tso_model.specs.Events.{CallOf, ReturnOf}
use Rattle.tso_model.specs.Labels.{By, Call, Drain, Fence, Label, Lock, Read, Unlock, Write, first_machine}
use Rattle.tso_model.specs.Programs.{Done, Pop, Push}
use Rattle.tso_model.proofs.Scheduled.{schedules_are_runs}

pub both_read_zero : BothReadZero
both_read_zero = (_, (schedules_are_runs buffering (first_machine buffering (0 ∷ 0 ∷ [])) _ both_zero).1 refl)

abbrev early : List Label
early = By 0 (Call (Push 7)) ∷ By 0 (Write 0 1) ∷ By 0 Fence ∷ []

abbrev late : List Label
late = By 0 (Call (Push 7)) ∷ By 0 (Write 0 1) ∷ By 0 (Drain 0 1) ∷ By 0 Fence ∷ []

pub fences_wait_here : FencesWaitHere
fences_wait_here = record {
  early = λ m run. none-some _ ((schedules_are_runs fencing (first_machine fencing (0 ∷ 0 ∷ [])) m early).0 run);
  machine = _;
  late = (schedules_are_runs fencing (first_machine fencing (0 ∷ 0 ∷ [])) _ late).1 refl;
}

pub returns_are_no_drains : ReturnsAreNoDrains
returns_are_no_drains = record {
  machine = _;
  run = (schedules_are_runs publishing (first_machine publishing (0 ∷ [])) _ late_drain).1 refl;
  history = refl;
  before = record { earlier = CallOf 0 (Push 7) ∷ ReturnOf 0 Done ∷ []; kind = Pop; later = _; split = refl; number = refl; done = omega arith };
}

abbrev inside : ℕ → List Label
inside w = By 0 (Call (Push 7)) ∷ By 1 (Call Pop) ∷ By 0 Lock ∷ By 1 (Read 0 w) ∷ []

abbrev after : List Label
after = By 0 (Call (Push 7)) ∷ By 1 (Call Pop) ∷ By 0 Lock ∷ By 0 (Read 0 0) ∷ By 0 (Write 0 1) ∷ By 0 (Drain 0 1) ∷ By 0 Unlock ∷ By 1 (Read 0 1) ∷ []

pub locks_hold_here : LocksHoldHere
locks_hold_here = record {
  inside = λ m w run. none-some _ ((schedules_are_runs locking (first_machine locking (0 ∷ [])) m (inside w)).0 run);
  machine = _;
  after = (schedules_are_runs locking (first_machine locking (0 ∷ [])) _ after).1 refl;
}
