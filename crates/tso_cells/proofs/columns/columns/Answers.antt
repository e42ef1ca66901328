use Rattle.std.proofs.Common.{arith}
use Rattle.tso_cells.proofs.OwnSpans.{pushed_columns}
use Rattle.tso_cells.proofs.columns.columns.Goals as goal

pub loop-array-preserved : goal.loop-array-preserved
loop-array-preserved c =
    let known = c.loop-array.invariant in
    rw c.in_ok-push.ensures.items (pushed_columns c.args.access c.args.arrays.now c.args.steps.now c.args.rows.now c.loop-array.columns.items c.loop-array.array c.in_ok-column.field-0 known.count known.each c.in_ok-column.ensures)

pub returns : goal.returns
returns c = record { count = omega arith; each = c.loop-array.invariant.each }
