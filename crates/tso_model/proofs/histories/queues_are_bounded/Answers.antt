use Rattle.tso_model.proofs.Fifo as lemmas
use Rattle.tso_model.proofs.histories.queues_are_bounded.Goals as goal

pub returns : goal.returns
returns c = lemmas.queues_are_bounded
