use Rattle.tso_crossing.proofs.AsSteps as lemmas
use Rattle.tso_crossing.proofs.moves_end_alike.Goals as goal

pub returns : goal.returns
returns g c = lemmas.moves_end_alike _
