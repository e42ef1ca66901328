use Rattle.tso_cells.proofs.Filling.{IsFillingRow}
use Rattle.tso_cells.proofs.rows.filled_row.Given as goal

abbrev pub invariant-loop-k : goal.invariant-loop-k
invariant-loop-k l = IsFillingRow l.row l.after l.k
