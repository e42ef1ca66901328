use Rattle.tso_model.proofs.Theorems as lemmas
use Rattle.tso_model.proofs.reduction.all_enabled_is_valid.Goals as goal

pub returns : goal.returns
returns g c = lemmas.all_enabled_is_valid _
