use Rattle.tso_model.proofs.Faults as lemmas
use Rattle.tso_model.proofs.runs.runs_reach_ends.Goals as goal

pub returns : goal.returns
returns g c = lemmas.runs_reach_ends
