use Rattle.tso_choose.proofs.ChoiceLemmas.{valid_choices_are_persistent}
use Rattle.tso_choose.proofs.laws.valid_choices_are_persistent.Goals as goal

pub returns : goal.returns
returns c = valid_choices_are_persistent c.args.checked.now.client
