use Rattle.tso_crossing.proofs.Free as lemmas
use Rattle.tso_crossing.proofs.free_is_persistent.Goals as goal

pub returns : goal.returns
returns g c = lemmas.free_is_persistent _
