use Rattle.tso_client.proofs.Placed as lemmas
use Rattle.tso_client.proofs.clients.programs_follow.Goals as goal

pub returns : goal.returns
returns c = lemmas.programs_follow
