use Rattle.tso_model.proofs.Theorems as lemmas
use Rattle.tso_model.proofs.histories.beginnings_are_linearizable.Goals as goal

pub returns : goal.returns
returns g c = lemmas.beginnings_are_linearizable _
