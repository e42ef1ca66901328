use Rattle.tso_client.proofs.Litmus as lemmas
use Rattle.tso_client.proofs.instances.locks_hold_here.Goals as goal

pub returns : goal.returns
returns c = lemmas.locks_hold_here
