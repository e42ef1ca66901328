use Rattle.std.proofs.Common.{◌-◌}
use Rattle.tso_rec.specs.Records.{states_of}
use Rattle.tso_cert.specs.Search.{IsSplit}
use Rattle.tso_cert.proofs.lookup.leaf_has.Given as goal

abbrev pub invariant-loop-low : goal.invariant-loop-low
invariant-loop-low l = IsSplit (states_of l.records) l.state l.low l.high

abbrev pub decreases-loop-low : goal.decreases-loop-low
decreases-loop-low l = l.high - l.low
