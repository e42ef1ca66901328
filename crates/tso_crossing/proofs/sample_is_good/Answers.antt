use Rattle.tso_crossing.proofs.Sample as lemmas
use Rattle.tso_crossing.proofs.sample_is_good.Goals as goal

pub returns : goal.returns
returns c = lemmas.sample_is_good
