use Rattle.tso_model.proofs.Theorems as lemmas
use Rattle.tso_model.proofs.reduction.tables_hold_futures.Goals as goal

pub returns : goal.returns
returns g c = lemmas.tables_hold_futures _
