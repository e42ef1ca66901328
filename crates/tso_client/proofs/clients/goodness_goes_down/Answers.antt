use Rattle.tso_client.proofs.Serving as lemmas
use Rattle.tso_client.proofs.clients.goodness_goes_down.Goals as goal

pub returns : goal.returns
returns c = lemmas.goodness_goes_down
