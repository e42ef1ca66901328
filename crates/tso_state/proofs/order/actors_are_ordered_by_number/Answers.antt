use Rattle.tso_state.proofs.OrderLemmas.{actor_alike}
use Rattle.tso_state.proofs.order.actors_are_ordered_by_number.Goals as goal

pub returns : goal.returns
returns c = actor_alike
