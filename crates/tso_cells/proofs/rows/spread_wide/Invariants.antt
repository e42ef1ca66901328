use Rattle.std.proofs.Common.{◌≡◌, false}
use Rattle.tso_cells.specs.Rows.{ArePassed, AreRows, AreRowsGrown}
use Rattle.tso_cells.specs.declared.growing.Growth.TheVariants.{Whole}
use Rattle.tso_cells.proofs.rows.spread_wide.Given as goal

abbrev pub invariant-loop-i : goal.invariant-loop-i
invariant-loop-i l = record {
  grown : AreRowsGrown Whole l.initial.rows l.rows l.is_grown;
  proper : AreRows l.initial.rows → AreRows l.rows;
  passed : l.is_grown ≡ false → ArePassed l.steps l.rows l.i;
}
