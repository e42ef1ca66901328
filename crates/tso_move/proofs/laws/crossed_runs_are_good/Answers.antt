use Rattle.tso_move.proofs.CrossedLemmas as lemmas
use Rattle.tso_move.proofs.laws.crossed_runs_are_good.Goals as goal

pub returns : goal.returns
returns c = lemmas.crossed_runs_are_good c.args.checked.now.client
