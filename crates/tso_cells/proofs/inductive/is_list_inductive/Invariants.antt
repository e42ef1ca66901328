use Rattle.tso_cells.proofs.PlaceLemmas.{UpTo}
use Rattle.tso_cells.proofs.TestLemmas.{ForeseesAt}
use Rattle.tso_cells.proofs.inductive.is_list_inductive.Given as goal

abbrev pub invariant-loop-i : goal.invariant-loop-i
invariant-loop-i l = UpTo (ForeseesAt l.arrays l.steps l.items) l.items l.i
