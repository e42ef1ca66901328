use Rattle.tso_model.proofs.Direct as lemmas
use Rattle.tso_model.proofs.rules.direct_is_step.Goals as goal

pub returns : goal.returns
returns g c = lemmas.direct_is_step _
