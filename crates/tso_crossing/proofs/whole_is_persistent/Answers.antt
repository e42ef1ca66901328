use Rattle.tso_crossing.proofs.Free as lemmas
use Rattle.tso_crossing.proofs.whole_is_persistent.Goals as goal

pub returns : goal.returns
returns g c = lemmas.whole_is_persistent _
