use Rattle.std.proofs.Common.{◌∙◌}
use Rattle.tso_state.proofs.OrderLemmas.{actor_alike}
use Rattle.tso_state.proofs.order.compare_actors.Goals as goal

pub returns-clause-order : goal.returns-clause-order
returns-clause-order c = c.compare.ensures.order ∙ actor_alike c.args.a c.args.b
