use Rattle.tso_model.proofs.Labelled as lemmas
use Rattle.tso_model.proofs.runs.ends_are_ends.Goals as goal

pub returns : goal.returns
returns g c = lemmas.ends_are_ends
