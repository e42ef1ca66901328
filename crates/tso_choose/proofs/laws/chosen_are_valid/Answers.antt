use Rattle.tso_choose.proofs.ChoiceLemmas.{chosen_are_valid}
use Rattle.tso_choose.proofs.laws.chosen_are_valid.Goals as goal

pub returns : goal.returns
returns c = chosen_are_valid c.args.checked.now.client
