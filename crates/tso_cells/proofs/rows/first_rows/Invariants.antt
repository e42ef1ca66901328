use Rattle.std.proofs.Common.{◌≡◌, length}
use Rattle.tso_cells.specs.Rows.{AreRowsInside}
use Rattle.tso_cells.proofs.rows.first_rows.Given as goal

abbrev pub invariant-loop-i : goal.invariant-loop-i
invariant-loop-i l = record {
  count : length l.rows.items ≡ l.i;
  held : AreRowsInside l.given l.rows.items;
}
