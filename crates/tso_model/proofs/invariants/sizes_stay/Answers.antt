use Rattle.tso_model.proofs.Guards as lemmas
use Rattle.tso_model.proofs.invariants.sizes_stay.Goals as goal

pub returns : goal.returns
returns g c = lemmas.sizes_stay
