use Rattle.tso_cells.proofs.TestLemmas.{RisingUpTo}
use Rattle.tso_cells.proofs.lists.are_rising.Given as goal

abbrev pub invariant-loop-n : goal.invariant-loop-n
invariant-loop-n l = RisingUpTo l.list l.n
