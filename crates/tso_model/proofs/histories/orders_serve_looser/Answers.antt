use Rattle.tso_model.proofs.Theorems as lemmas
use Rattle.tso_model.proofs.histories.orders_serve_looser.Goals as goal

pub returns : goal.returns
returns g c = lemmas.orders_serve_looser _
