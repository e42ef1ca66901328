use Rattle.tso_foot.proofs.WithinLemmas.{runs_are_foreseen}
use Rattle.tso_foot.proofs.laws.runs_are_foreseen.Goals as goal

pub returns : goal.returns
returns c = runs_are_foreseen c.args.checked.now.client
