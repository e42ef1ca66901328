use Rattle.tso_client.proofs.Serving as lemmas
use Rattle.tso_client.proofs.served.verified_serves.Goals as goal

pub returns : goal.returns
returns c = lemmas.verified_serves
