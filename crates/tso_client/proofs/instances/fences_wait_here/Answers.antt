use Rattle.tso_client.proofs.Litmus as lemmas
use Rattle.tso_client.proofs.instances.fences_wait_here.Goals as goal

pub returns : goal.returns
returns c = lemmas.fences_wait_here
