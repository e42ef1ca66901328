use Rattle.tso_indep.proofs.ReasonLemmas.{true_reasons_are_the_models}
use Rattle.tso_indep.proofs.laws.true_reasons_are_the_models.Goals as goal

pub returns : goal.returns
returns c = true_reasons_are_the_models c.args.checked.now.client
