use Rattle.std.proofs.Common.{◌≡◌, length}
use Rattle.tso_cells.specs.Rows.{AreRows, AreRowsInside, rows_room}
use Rattle.tso_cells.proofs.rows.close.Given as goal

abbrev pub invariant-grow : goal.invariant-grow
invariant-grow l = record {
  count : length l.rows ≡ length l.initial.rows;
  keeps : AreRowsInside l.initial.rows l.rows;
  proper : AreRows l.rows;
}

abbrev pub decreases-grow : goal.decreases-grow
decreases-grow l = rows_room l.rows
