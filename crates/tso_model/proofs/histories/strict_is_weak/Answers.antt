use Rattle.tso_model.proofs.Fifo as lemmas
use Rattle.tso_model.proofs.histories.strict_is_weak.Goals as goal

pub returns : goal.returns
returns c = lemmas.strict_is_weak
