use Rattle.tso_client.proofs.Reordered as lemmas
use Rattle.tso_client.proofs.clients.order_is_nothing.Goals as goal

pub returns : goal.returns
returns c = lemmas.order_is_nothing
