use Rattle.std.proofs.Common.{◌≡◌, length}
use Rattle.tso_cells.proofs.OwnSpans.{AreFirstOwn}
use Rattle.tso_cells.proofs.columns.own_spans.Given as goal

abbrev pub invariant-loop-i : goal.invariant-loop-i
invariant-loop-i l = record {
  count : length l.spans.items ≡ l.i;
  each : AreFirstOwn l.access l.arrays l.steps l.rows l.array l.spans.items;
}
