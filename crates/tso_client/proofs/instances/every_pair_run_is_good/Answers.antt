use Rattle.tso_client.proofs.PairCertificate as lemmas
use Rattle.tso_client.proofs.instances.every_pair_run_is_good.Goals as goal

pub returns : goal.returns
returns c = lemmas.every_pair_run_is_good
