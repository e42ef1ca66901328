use Rattle.tso_client.proofs.Reordered as lemmas
use Rattle.tso_client.proofs.clients.clients_cover_themselves.Goals as goal

pub returns : goal.returns
returns c = lemmas.clients_cover_themselves
