use Rattle.tso_client.proofs.Reordered as lemmas
use Rattle.tso_client.proofs.clients.client_covers_is_transitive.Goals as goal

pub returns : goal.returns
returns c = lemmas.client_covers_is_transitive
