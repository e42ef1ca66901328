use Rattle.tso_crossing.proofs.Crossings as lemmas
use Rattle.tso_crossing.proofs.every_crossed_run_is_good.Goals as goal

pub returns : goal.returns
returns g c = lemmas.every_crossed_run_is_good _
