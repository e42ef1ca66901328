use Rattle.tso_model.proofs.Meant as lemmas
use Rattle.tso_model.proofs.tso.calls_wait_for_prologue.Goals as goal

pub returns : goal.returns
returns g c = lemmas.calls_wait_for_prologue
