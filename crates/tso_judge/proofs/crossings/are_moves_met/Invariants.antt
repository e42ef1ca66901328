use Rattle.tso_cert.specs.Lookup.{tree_states}
use Rattle.tso_cert.specs.Trees.{tree_of}
use Rattle.tso_judge.proofs.CrossingLemmas.{MetTo}
use Rattle.tso_judge.proofs.crossings.are_moves_met.Given as goal

abbrev pub invariant-loop-thread : goal.invariant-loop-thread
invariant-loop-thread l = MetTo l.whole.checked.now.client l.whole.own.now l.whole.basis.now.table (tree_states (tree_of l.whole.tree.now)) l.state l.thread
