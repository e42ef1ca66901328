use Rattle.std.proofs.Common.{◌-◌}
use Rattle.tso_keys.proofs.Halves.{IsOnlyBetween}
use Rattle.tso_keys.proofs.halving.number_by_halves.Given as goal

abbrev pub invariant-loop-low : goal.invariant-loop-low
invariant-loop-low l = IsOnlyBetween l.keys l.key l.low l.high

abbrev pub decreases-loop-low : goal.decreases-loop-low
decreases-loop-low l = l.high - l.low
