use Rattle.tso_model.proofs.Theorems as lemmas
use Rattle.tso_model.proofs.reduction.ends_are_met.Goals as goal

pub returns : goal.returns
returns g c = lemmas.ends_are_met _
