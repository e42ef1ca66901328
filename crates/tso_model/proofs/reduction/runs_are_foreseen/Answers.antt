use Rattle.tso_model.proofs.Futures as lemmas
use Rattle.tso_model.proofs.reduction.runs_are_foreseen.Goals as goal

pub returns : goal.returns
returns g c = lemmas.runs_are_foreseen _
