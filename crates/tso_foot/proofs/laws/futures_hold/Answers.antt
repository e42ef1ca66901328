use Rattle.tso_foot.proofs.WithinLemmas.{futures_hold}
use Rattle.tso_foot.proofs.laws.futures_hold.Goals as goal

pub returns : goal.returns
returns c = futures_hold c.args.checked.now.client
