use Rattle.tso_judge.proofs.ReasonLemmas.{HoldBefore}
use Rattle.tso_judge.proofs.reasons.are_reasons.Given as goal

abbrev pub invariant-loop-position : goal.invariant-loop-position
invariant-loop-position g l = HoldBefore l.checked.client l.table (g.S.Viewed.state l.state) l.chosen l.actor l.given l.position
