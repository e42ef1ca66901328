use Rattle.std.proofs.Common.{◌-◌, ◌≤◌, length}
use Rattle.tso_flow.specs.Calls.{step_limit}
use Rattle.tso_search.specs.Ways.{AreLed, IsTrail}
use Rattle.tso_search.proofs.trail.walk_on.Given as goal

abbrev pub invariant-steps : goal.invariant-steps
invariant-steps l = record {
  trail : IsTrail l.checked.client l.trail;
  led : AreLed l.checked.client l.trail.state l.actor l.target;
  more : length l.initial.trail.labels.items ≤ length l.trail.labels.items;
}

abbrev pub decreases-steps : goal.decreases-steps
decreases-steps l = step_limit l.checked.client - length l.trail.labels.items
