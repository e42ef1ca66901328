use Rattle.tso_model.proofs.Fifo as lemmas
use Rattle.tso_model.proofs.histories.answers_are_queue_answers.Goals as goal

pub returns : goal.returns
returns c = lemmas.answers_are_queue_answers
