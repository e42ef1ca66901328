use Rattle.tso_model.proofs.Meant as lemmas
use Rattle.tso_model.proofs.tso.fences_wait.Goals as goal

pub returns : goal.returns
returns g c = lemmas.fences_wait
