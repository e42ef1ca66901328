use Rattle.tso_crossing.proofs.AsSteps as lemmas
use Rattle.tso_crossing.proofs.moves_are_steps.Goals as goal

pub returns : goal.returns
returns g c = lemmas.moves_are_steps _
