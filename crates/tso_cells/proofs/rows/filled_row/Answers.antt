use Rattle.tso_cells.proofs.Filling.{filled_all, filling_row_first, filling_row_on}
use Rattle.tso_cells.proofs.rows.filled_row.Goals as goal

pub loop-k-init : goal.loop-k-init
loop-k-init c = filling_row_first c.args.row.now

pub loop-k-preserved : goal.loop-k-preserved
loop-k-preserved c = filling_row_on c.args.row.now c.loop-k.after c.loop-k.k _ c.filled.result c.filled.ensures.keeps c.filled.ensures.proper c.loop-k.invariant

pub returns : goal.returns
returns c = let all = filled_all c.args.row.now c.loop-k.after c.loop-k.k c.told-row c.loop-k-test.false c.loop-k.invariant in record { keeps = all.0; proper = all.1 }
