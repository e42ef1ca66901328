use Rattle.tso_model.proofs.Falls as lemmas
use Rattle.tso_model.proofs.bounds.runs_are_bounded.Goals as goal

pub returns : goal.returns
returns g c = lemmas.runs_are_bounded
