use Rattle.tso_model.proofs.Scheduled as lemmas
use Rattle.tso_model.proofs.rules.schedules_are_runs.Goals as goal

pub returns : goal.returns
returns g c = lemmas.schedules_are_runs
