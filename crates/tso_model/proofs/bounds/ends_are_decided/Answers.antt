use Rattle.tso_model.proofs.Few as lemmas
use Rattle.tso_model.proofs.bounds.ends_are_decided.Goals as goal

pub returns : goal.returns
returns g c = lemmas.ends_are_decided
