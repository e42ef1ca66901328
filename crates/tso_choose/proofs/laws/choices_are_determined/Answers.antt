use Rattle.tso_choose.proofs.ChoiceLemmas.{choices_are_determined}
use Rattle.tso_choose.proofs.laws.choices_are_determined.Goals as goal

pub returns : goal.returns
returns c = choices_are_determined c.args.checked.now.client
