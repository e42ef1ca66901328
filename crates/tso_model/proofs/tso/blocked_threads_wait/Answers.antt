use Rattle.tso_model.proofs.Meant as lemmas
use Rattle.tso_model.proofs.tso.blocked_threads_wait.Goals as goal

pub returns : goal.returns
returns g c = lemmas.blocked_threads_wait
