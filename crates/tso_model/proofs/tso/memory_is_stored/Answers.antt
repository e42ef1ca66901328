use Rattle.tso_model.proofs.Meant as lemmas
use Rattle.tso_model.proofs.tso.memory_is_stored.Goals as goal

pub returns : goal.returns
returns g c = lemmas.memory_is_stored
