use Rattle.tso_model.proofs.Follow as lemmas
use Rattle.tso_model.proofs.runs.runs_are_followed.Goals as goal

pub returns : goal.returns
returns g c = lemmas.runs_are_followed _
