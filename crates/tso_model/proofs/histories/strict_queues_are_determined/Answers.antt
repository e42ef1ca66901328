use Rattle.tso_model.proofs.Fifo as lemmas
use Rattle.tso_model.proofs.histories.strict_queues_are_determined.Goals as goal

pub returns : goal.returns
returns c = lemmas.strict_queues_are_determined
