use Rattle.std.proofs.Common.{◌≡◌, length}
use Rattle.tso_cells.specs.Rows.{AreRowsInside}
use Rattle.tso_cells.proofs.rows.spread_rounds.Given as goal

abbrev pub invariant-loop-round : goal.invariant-loop-round
invariant-loop-round l = record {
  count : length l.rows ≡ length l.initial.rows;
  keeps : AreRowsInside l.initial.rows l.rows;
}
