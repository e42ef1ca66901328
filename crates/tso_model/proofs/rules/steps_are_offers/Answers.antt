use Rattle.tso_model.proofs.Offered as lemmas
use Rattle.tso_model.proofs.rules.steps_are_offers.Goals as goal

pub returns : goal.returns
returns g c = lemmas.steps_are_offers
