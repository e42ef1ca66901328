use Rattle.tso_cells.proofs.PlaceLemmas.{UpTo}
use Rattle.tso_cells.specs.Inductive.{HasZero}
use Rattle.tso_cells.proofs.starts.have_zeros.Given as goal

abbrev pub invariant-loop-n : goal.invariant-loop-n
invariant-loop-n l = UpTo HasZero l.registers l.n
