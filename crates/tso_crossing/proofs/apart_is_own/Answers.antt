use Rattle.tso_crossing.proofs.Unwritten as lemmas
use Rattle.tso_crossing.proofs.apart_is_own.Goals as goal

pub returns : goal.returns
returns g c = lemmas.apart_is_own _
