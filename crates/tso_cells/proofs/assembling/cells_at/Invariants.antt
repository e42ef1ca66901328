use Rattle.std.proofs.Common.{◌≡◌, ◌++◌, drop}
use Rattle.tso_cells.specs.Columns.{cells_from}
use Rattle.tso_cells.proofs.assembling.cells_at.Given as goal

abbrev pub invariant-loop-array : goal.invariant-loop-array
invariant-loop-array l = l.cells.items ++ cells_from l.array (drop l.array l.columns) l.i ≡ cells_from 0 l.columns l.i
