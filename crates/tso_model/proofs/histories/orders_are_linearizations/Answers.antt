use Rattle.tso_model.proofs.Theorems as lemmas
use Rattle.tso_model.proofs.histories.orders_are_linearizations.Goals as goal

pub returns : goal.returns
returns g c = lemmas.orders_are_linearizations _
