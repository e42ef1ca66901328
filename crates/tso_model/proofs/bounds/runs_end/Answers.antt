use Rattle.tso_model.proofs.Falls as lemmas
use Rattle.tso_model.proofs.bounds.runs_end.Goals as goal

pub returns : goal.returns
returns g c = lemmas.runs_end
