use Rattle.tso_write.proofs.ExistingLemmas.{tree_is_there}
use Rattle.tso_write.proofs.laws.has_tree.Goals as goal

pub returns : goal.returns
returns c = tree_is_there c.args.checked.now.client c.args.worked.now c.requires.worked c.states_differ.ensures c.certificates_fit.ensures
