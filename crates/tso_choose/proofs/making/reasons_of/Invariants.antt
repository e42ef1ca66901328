use Rattle.std.proofs.Common.{◌≡◌}
use Rattle.tso_choose.specs.Choices.{reasons_below}
use Rattle.tso_choose.proofs.making.reasons_of.Given as goal

abbrev pub invariant-loop-other : goal.invariant-loop-other
invariant-loop-other g l = l.given ≡ reasons_below l.checked.client l.table (g.S.Viewed.state l.state) l.chosen l.kind l.own l.other
