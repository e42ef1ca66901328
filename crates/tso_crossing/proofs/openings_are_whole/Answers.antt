use Rattle.tso_crossing.proofs.AsSteps as lemmas
use Rattle.tso_crossing.proofs.openings_are_whole.Goals as goal

pub returns : goal.returns
returns g c = lemmas.openings_are_whole _
