use Rattle.tso_cert.specs.Lookup.{tree_states}
use Rattle.tso_cert.specs.Trees.{tree_of}
use Rattle.tso_judge.proofs.SuccessorLemmas.{KeptTo}
use Rattle.tso_judge.proofs.successors.are_kept_after.Given as goal

abbrev pub invariant-loop-k : goal.invariant-loop-k
invariant-loop-k l = KeptTo l.checked.client (tree_states (tree_of l.cert)) l.state l.choices l.k
