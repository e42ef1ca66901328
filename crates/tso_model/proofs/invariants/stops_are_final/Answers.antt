use Rattle.tso_model.proofs.Faults as lemmas
use Rattle.tso_model.proofs.invariants.stops_are_final.Goals as goal

pub returns : goal.returns
returns g c = lemmas.stops_are_final
