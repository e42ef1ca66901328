use Rattle.tso_cert.specs.Lookup.{tree_states}
use Rattle.tso_cert.specs.Trees.{tree_of}
use Rattle.tso_check.proofs.WalkLemmas.{AreValidTo}
use Rattle.tso_check.proofs.halved.judge_leaf.Given as goal

abbrev pub invariant-loop-k : goal.invariant-loop-k
invariant-loop-k g l = AreValidTo l.whole.checked.now.client l.whole.basis.now (tree_states (tree_of l.whole.tree.now)) l.records l.k
