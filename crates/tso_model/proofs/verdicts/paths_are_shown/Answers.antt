use Rattle.tso_model.proofs.Theorems as lemmas
use Rattle.tso_model.proofs.verdicts.paths_are_shown.Goals as goal

pub returns : goal.returns
returns g c = lemmas.paths_are_shown _
