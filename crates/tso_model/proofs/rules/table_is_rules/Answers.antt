use Rattle.tso_model.proofs.Tabled as lemmas
use Rattle.tso_model.proofs.rules.table_is_rules.Goals as goal

pub returns : goal.returns
returns g c = lemmas.table_is_rules
