use Rattle.tso_cells.proofs.RowLemmas.{pushed_rows}
use Rattle.tso_cells.proofs.rows.first_rows.Goals as goal

pub loop-i-preserved : goal.loop-i-preserved
loop-i-preserved c =
    let known = c.loop-i.invariant in
    rw c.in_ok-push.ensures.items (pushed_rows c.args.given.now c.loop-i.rows.items c.row_if.result c.loop-i.i known.count known.held c.row_if.ensures)
