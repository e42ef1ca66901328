use Rattle.std.proofs.Common.{◌∙◌, ap, arith, List}
use Rattle.tso_cells.specs.declared.table.Cells.{Cells}
use Rattle.tso_cells.proofs.OwnSpans.{pushed_spans}
use Rattle.tso_cells.specs.Columns.{own_span}
use Rattle.tso_cells.proofs.columns.own_spans.Goals as goal

pub loop-i-preserved : goal.loop-i-preserved
loop-i-preserved c =
    let known = c.loop-i.invariant in
    rw c.in_ok-push.ensures.items (pushed_spans c.args.access c.args.arrays.now c.args.steps.now c.args.rows.now c.args.array c.loop-i.spans.items c.loop-i.i c.own_span.result _ _ known.count known.each
    (c.own_span.ensures ∙ ap (λ (cells : List Cells). own_span cells c.args.array) c.own_cells-own.ensures))

pub returns : goal.returns
returns c = record { count = omega arith; each = c.loop-i.invariant.each }
