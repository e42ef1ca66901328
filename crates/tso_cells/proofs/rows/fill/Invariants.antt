use Rattle.tso_cells.proofs.Filling.{IsFilling}
use Rattle.tso_cells.proofs.rows.fill.Given as goal

abbrev pub invariant-loop-i : goal.invariant-loop-i
invariant-loop-i l = IsFilling l.initial.rows l.rows l.i
