use Rattle.std.proofs.Common.{◌≡◌, ◌*◌, ◌≤◌, take}
use Rattle.std.specs.Prelude.{sum_by}
use Rattle.tso_flow.specs.Calls.{bound_of}
use Rattle.tso_flow.proofs.limit.bounds_of.Given as goal

abbrev pub invariant-loop-step : goal.invariant-loop-step
invariant-loop-step l = record {
  told : l.sum ≡ sum_by bound_of (take l.step-index l.steps);
  small : l.sum ≤ 15 * l.step-index;
}
