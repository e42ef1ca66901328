use Rattle.std.proofs.Common.{◌≡◌, length}
use Rattle.tso_cells.proofs.Items.{AreFirstItems}
use Rattle.tso_cells.proofs.assembling.assembled.Given as goal

abbrev pub invariant-loop-i : goal.invariant-loop-i
invariant-loop-i l = record {
  count : length l.items.items ≡ l.i;
  each : AreFirstItems l.rows l.reads l.writes l.items.items;
}
