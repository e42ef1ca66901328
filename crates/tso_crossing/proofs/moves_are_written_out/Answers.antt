use Rattle.tso_crossing.proofs.Direct as lemmas
use Rattle.tso_crossing.proofs.moves_are_written_out.Goals as goal

pub returns : goal.returns
returns g c = lemmas.moves_are_written_out _
