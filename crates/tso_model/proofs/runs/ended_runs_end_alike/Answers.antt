use Rattle.tso_model.proofs.Partway as lemmas
use Rattle.tso_model.proofs.runs.ended_runs_end_alike.Goals as goal

pub returns : goal.returns
returns g c = lemmas.ended_runs_end_alike
