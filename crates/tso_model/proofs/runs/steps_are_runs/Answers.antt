use Rattle.tso_model.proofs.Labelled as lemmas
use Rattle.tso_model.proofs.runs.steps_are_runs.Goals as goal

pub returns : goal.returns
returns g c = lemmas.steps_are_runs
