use Rattle.std.proofs.Common.{◌∙◌}
use Rattle.tso_state.proofs.OrderLemmas.{state_alike}
use Rattle.tso_state.proofs.order.compare.Goals as goal

pub returns-clause-order : goal.returns-clause-order
returns-clause-order c = c.compare.ensures.order ∙ state_alike c.args.a.now c.args.b.now
