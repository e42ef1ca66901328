use Rattle.tso_model.proofs.Meant as lemmas
use Rattle.tso_model.proofs.tso.reads_are_newest.Goals as goal

pub returns : goal.returns
returns g c = lemmas.reads_are_newest
