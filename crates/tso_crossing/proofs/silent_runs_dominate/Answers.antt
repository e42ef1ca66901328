use Rattle.tso_crossing.proofs.Dominance as lemmas
use Rattle.tso_crossing.proofs.silent_runs_dominate.Goals as goal

pub returns : goal.returns
returns g c = lemmas.silent_runs_dominate _
