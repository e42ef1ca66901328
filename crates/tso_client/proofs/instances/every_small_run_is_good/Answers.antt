use Rattle.tso_client.proofs.Certificate as lemmas
use Rattle.tso_client.proofs.instances.every_small_run_is_good.Goals as goal

pub returns : goal.returns
returns c = lemmas.every_small_run_is_good
