use Rattle.tso_model.proofs.Guards as lemmas
use Rattle.tso_model.proofs.invariants.buffers_stay_within.Goals as goal

pub returns : goal.returns
returns g c = lemmas.buffers_stay_within
