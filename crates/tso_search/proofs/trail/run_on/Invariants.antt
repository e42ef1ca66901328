use Rattle.std.proofs.Common.{◌-◌, length}
use Rattle.tso_flow.specs.Calls.{step_limit}
use Rattle.tso_move.specs.Runs.{LeadsTo}
use Rattle.tso_search.specs.Ways.{IsTrail}
use Rattle.tso_search.proofs.trail.run_on.Given as goal

abbrev pub invariant-run : goal.invariant-run
invariant-run l = record {
  trail : IsTrail l.checked.client l.trail;
  leads : LeadsTo l.checked.client l.own l.table l.initial.trail.state l.trail.state;
}

abbrev pub decreases-run : goal.decreases-run
decreases-run l = step_limit l.checked.client - length l.trail.labels.items
