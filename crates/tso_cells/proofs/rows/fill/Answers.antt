use Rattle.tso_cells.proofs.Filling.{filled_rows, filling_first, filling_on}
use Rattle.tso_cells.proofs.rows.fill.Goals as goal

pub loop-i-init : goal.loop-i-init
loop-i-init c = filling_first c.args.rows.now

pub loop-i-preserved : goal.loop-i-preserved
loop-i-preserved c = filling_on c.args.rows.now c.loop-i.rows c.loop-i.i _ c.filled_row-row.result c.filled_row-row.ensures.keeps c.filled_row-row.ensures.proper c.loop-i.invariant

pub returns : goal.returns
returns c = record {
  count = c.loop-i.invariant.count;
  keeps = c.loop-i.invariant.keeps;
  proper = filled_rows c.args.rows.now c.loop-i.rows c.loop-i.i c.loop-i-test.false c.loop-i.invariant;
}
