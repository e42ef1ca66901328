use Rattle.tso_model.proofs.Agree as lemmas
use Rattle.tso_model.proofs.runs.actors_agree.Goals as goal

pub returns : goal.returns
returns g c = lemmas.actors_agree
