use Rattle.tso_hist.proofs.InTurn as lemmas
use Rattle.tso_hist.proofs.laws.runs_are_in_turn.Goals as goal

pub returns : goal.returns
returns g c = lemmas.runs_are_in_turn _
