use Rattle.tso_foot.proofs.WithinLemmas.{reached_is_within}
use Rattle.tso_foot.proofs.laws.reached_is_within.Goals as goal

pub returns : goal.returns
returns c = reached_is_within c.args.checked.now.client
