use Rattle.std.proofs.Common.{List, subst}
use Rattle.std.proofs.lemmas.Result.{IfOk-weaker}
use Rattle.tso_cells.specs.declared.table.Item.{Item}
use Rattle.tso_cells.specs.declared.interval.Interval.{Interval}
use Rattle.tso_cells.proofs.WidenedTables.{widened_is}
use Rattle.tso_cells.specs.Columns.{AreAssembled, AreColumns}
use Rattle.tso_cells.specs.Widened.{AreWidened}
use Rattle.tso_cells.specs.declared.access.Access.TheVariants.{Read, Write}
use Rattle.tso_cells.proofs.widening.widened_items.Goals as goal

pub returns : goal.returns
returns c =
    let arrays = c.args.arrays.now in
    let steps = c.args.steps.now in
    let rows = c.in_ok-rows.rows.items in
    let reads = c.in_ok-reads.reads.items in
    let writes = c.in_ok-writes.writes.items in
    let r = subst (λ (x : List (List Interval)). AreColumns Read arrays steps x reads) c.as_slice.ensures.value c.in_ok-reads.ensures in
    let w = subst (λ (x : List (List Interval)). AreColumns Write arrays steps x writes) c.as_slice-2.ensures.value c.in_ok-writes.ensures in
    let P : List Item → Type 0 = AreAssembled c.as_slice-3.result.now c.as_slice-4.result.now c.as_slice-5.result.now in
    let Q : List Item → Type 0 = AreWidened arrays steps c.args.given.now c.args.entry.now in
    IfOk-weaker c.assembled.result P Q (λ items made.
    widened_is arrays steps c.args.given.now c.args.entry.now rows reads writes items c.in_ok-rows.ensures r w
    (subst (λ (x : List (List Interval)). AreAssembled rows reads x items) c.as_slice-5.ensures.value
    (subst (λ (x : List (List Interval)). AreAssembled rows x c.as_slice-5.result.now items) c.as_slice-4.ensures.value
    (subst (λ (x : List (List Interval)). AreAssembled x c.as_slice-4.result.now c.as_slice-5.result.now items) c.as_slice-3.ensures.value made)))) c.assembled.ensures
