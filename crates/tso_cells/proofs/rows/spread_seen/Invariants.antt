use Rattle.std.proofs.Common.{◌≡◌, length}
use Rattle.tso_cells.specs.Rows.{AreRowsInside}
use Rattle.tso_cells.proofs.rows.spread_seen.Given as goal

abbrev pub invariant-loop-i : goal.invariant-loop-i
invariant-loop-i l = record {
  count : length l.rows ≡ length l.initial.rows;
  keeps : AreRowsInside l.initial.rows l.rows;
}
