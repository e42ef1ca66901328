use Rattle.tso_model.proofs.Theorems as lemmas
use Rattle.tso_model.proofs.reduction.valid_is_persistent.Goals as goal

pub returns : goal.returns
returns g c = lemmas.valid_is_persistent _
