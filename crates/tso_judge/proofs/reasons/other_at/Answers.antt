use Rattle.tso_judge.proofs.ReasonLemmas.{position_before, position_behind}
use Rattle.tso_judge.proofs.reasons.other_at.Goals as goal

pub returns-then-position-own-clause-position : goal.returns-then-position-own-clause-position
returns-then-position-own-clause-position c = position_before c.args.own c.args.position c.if-position-own.true

pub returns-clause-position : goal.returns-clause-position
returns-clause-position c = position_behind c.args.own c.args.position c.if-position-own.false
