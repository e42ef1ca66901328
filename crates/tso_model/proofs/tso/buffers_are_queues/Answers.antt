use Rattle.tso_model.proofs.Meant as lemmas
use Rattle.tso_model.proofs.tso.buffers_are_queues.Goals as goal

pub returns : goal.returns
returns g c = lemmas.buffers_are_queues
