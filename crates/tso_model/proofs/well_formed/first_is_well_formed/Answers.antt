use Rattle.tso_model.proofs.Theorems as lemmas
use Rattle.tso_model.proofs.well_formed.first_is_well_formed.Goals as goal

pub returns : goal.returns
returns g c = lemmas.first_is_well_formed _
