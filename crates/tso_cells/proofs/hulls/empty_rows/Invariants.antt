use Rattle.std.proofs.Common.{◌≡◌}
use Rattle.tso_cells.specs.Hulls.{empty_rows}
use Rattle.tso_cells.proofs.hulls.empty_rows.Given as goal

abbrev pub invariant-loop-position : goal.invariant-loop-position
invariant-loop-position l = l.rows.items ≡ empty_rows l._position
