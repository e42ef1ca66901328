use Rattle.std.proofs.Common.{◌≡◌}
use Rattle.tso_write.specs.Cutting.{reasons_but}
use Rattle.tso_write.proofs.lone.reasons_but.Given as goal

abbrev pub invariant-loop-other : goal.invariant-loop-other
invariant-loop-other l = l.given ≡ reasons_but l.reason l.own l.other
