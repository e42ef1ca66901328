use Rattle.tso_model.proofs.Theorems as lemmas
use Rattle.tso_model.proofs.verdicts.every_run_is_good.Goals as goal

pub returns : goal.returns
returns g c = lemmas.every_run_is_good _
