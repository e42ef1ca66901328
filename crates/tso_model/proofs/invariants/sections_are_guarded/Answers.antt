use Rattle.tso_model.proofs.Guards as lemmas
use Rattle.tso_model.proofs.invariants.sections_are_guarded.Goals as goal

pub returns : goal.returns
returns g c = lemmas.sections_are_guarded
