use Rattle.tso_model.proofs.Fifo as lemmas
use Rattle.tso_model.proofs.histories.queues_are_fifo.Goals as goal

pub returns : goal.returns
returns c = lemmas.queues_are_fifo
