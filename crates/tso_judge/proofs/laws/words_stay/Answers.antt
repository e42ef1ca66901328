use Rattle.tso_judge.proofs.Stepping.{words_stay}
use Rattle.tso_judge.proofs.laws.words_stay.Goals as goal

pub returns : goal.returns
returns c = words_stay c.args.checked.now.client
