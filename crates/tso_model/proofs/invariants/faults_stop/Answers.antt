use Rattle.tso_model.proofs.Faults as lemmas
use Rattle.tso_model.proofs.invariants.faults_stop.Goals as goal

pub returns : goal.returns
returns g c = lemmas.faults_stop
