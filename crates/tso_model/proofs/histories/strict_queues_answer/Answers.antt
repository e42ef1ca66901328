use Rattle.tso_model.proofs.Fifo as lemmas
use Rattle.tso_model.proofs.histories.strict_queues_answer.Goals as goal

pub returns : goal.returns
returns c = lemmas.strict_queues_answer
