use Rattle.std.proofs.Common.{◌≤◌}
use Rattle.tso_regions.specs.Gathering.{IsSettledBelow}
use Rattle.tso_regions.proofs.settling.is_settled.Given as goal

abbrev pub invariant-loop-number : goal.invariant-loop-number
invariant-loop-number g l = record {
  below : IsSettledBelow l.count l.regions l.place l.region l.number l.before;
  few : l.before ≤ l.number;
}
