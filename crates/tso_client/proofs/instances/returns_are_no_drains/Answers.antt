use Rattle.tso_client.proofs.Litmus as lemmas
use Rattle.tso_client.proofs.instances.returns_are_no_drains.Goals as goal

pub returns : goal.returns
returns c = lemmas.returns_are_no_drains
