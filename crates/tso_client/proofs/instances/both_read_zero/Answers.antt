use Rattle.tso_client.proofs.Litmus as lemmas
use Rattle.tso_client.proofs.instances.both_read_zero.Goals as goal

pub returns : goal.returns
returns c = lemmas.both_read_zero
