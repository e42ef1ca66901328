use Rattle.tso_model.proofs.Few as lemmas
use Rattle.tso_model.proofs.bounds.labels_are_few.Goals as goal

pub returns : goal.returns
returns g c = lemmas.labels_are_few
