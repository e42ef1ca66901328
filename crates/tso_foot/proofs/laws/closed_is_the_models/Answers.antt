use Rattle.tso_foot.proofs.WithinLemmas.{closed_is_the_models}
use Rattle.tso_foot.proofs.laws.closed_is_the_models.Goals as goal

pub returns : goal.returns
returns c = closed_is_the_models c.args.checked.now.client
