use Rattle.tso_crossing.proofs.Free as lemmas
use Rattle.tso_crossing.proofs.valid_moves_are_persistent.Goals as goal

pub returns : goal.returns
returns g c = lemmas.valid_moves_are_persistent _
