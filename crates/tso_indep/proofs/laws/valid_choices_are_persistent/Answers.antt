use Rattle.tso_indep.proofs.ReasonLemmas.{valid_choices_are_persistent}
use Rattle.tso_indep.proofs.laws.valid_choices_are_persistent.Goals as goal

pub returns : goal.returns
returns c = valid_choices_are_persistent c.args.checked.now.client
