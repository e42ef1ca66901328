use Rattle.tso_model.proofs.Theorems as lemmas
use Rattle.tso_model.proofs.verdicts.bad_paths_are_errors.Goals as goal

pub returns : goal.returns
returns g c = lemmas.bad_paths_are_errors _
