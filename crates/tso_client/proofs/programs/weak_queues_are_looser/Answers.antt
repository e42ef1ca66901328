use Rattle.tso_client.proofs.Looser as lemmas
use Rattle.tso_client.proofs.programs.weak_queues_are_looser.Goals as goal

pub returns : goal.returns
returns c = lemmas.weak_queues_are_looser
