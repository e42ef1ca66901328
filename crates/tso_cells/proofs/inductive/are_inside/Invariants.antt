use Rattle.tso_cells.proofs.PlaceLemmas.{UpTo}
use Rattle.tso_cells.proofs.TestLemmas.{LiesIn}
use Rattle.tso_cells.proofs.inductive.are_inside.Given as goal

abbrev pub invariant-loop-n : goal.invariant-loop-n
invariant-loop-n l = UpTo (LiesIn l.others) l.intervals l.n
