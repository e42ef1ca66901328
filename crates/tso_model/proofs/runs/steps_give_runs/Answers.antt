use Rattle.tso_model.proofs.Leaves as lemmas
use Rattle.tso_model.proofs.runs.steps_give_runs.Goals as goal

pub returns : goal.returns
returns g c = lemmas.steps_give_runs
