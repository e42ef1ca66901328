use Rattle.tso_hist.proofs.InTurn as lemmas
use Rattle.tso_hist.proofs.laws.histories_tell.Goals as goal

pub returns : goal.returns
returns c = lemmas.histories_tell
