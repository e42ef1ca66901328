use Rattle.tso_foot.proofs.WithinLemmas.{closed_is_ranked}
use Rattle.tso_foot.proofs.laws.closed_is_ranked.Goals as goal

pub returns : goal.returns
returns c = closed_is_ranked c.args.checked.now.client
