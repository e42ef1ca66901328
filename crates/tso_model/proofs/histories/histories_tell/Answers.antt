use Rattle.tso_model.proofs.Answered as lemmas
use Rattle.tso_model.proofs.histories.histories_tell.Goals as goal

pub returns : goal.returns
returns g c = lemmas.histories_tell _
