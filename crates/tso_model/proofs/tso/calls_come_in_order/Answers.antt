use Rattle.tso_model.proofs.Meant as lemmas
use Rattle.tso_model.proofs.tso.calls_come_in_order.Goals as goal

pub returns : goal.returns
returns g c = lemmas.calls_come_in_order
