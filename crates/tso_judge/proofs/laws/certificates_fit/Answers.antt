use Rattle.tso_judge.proofs.Trees.{certificates_fit}
use Rattle.tso_judge.proofs.laws.certificates_fit.Goals as goal

pub returns : goal.returns
returns c = certificates_fit c.args.checked.now.client c.states_fit.ensures
