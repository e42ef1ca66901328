use Rattle.std.proofs.Common.{◌≡◌, ◌∙◌, ◌+◌, ◌++◌, [], ◌∷◌, ap, drop, get_or, List, sym, subst}
use Rattle.tso_cells.specs.declared.table.Cells.{Cells}
use Rattle.tso_cells.specs.declared.interval.Interval.{Interval}
use Rattle.tso_cells.proofs.CellLists.{cells_end, cells_on, cells_skip, no_cells, some_cells}
use Rattle.tso_cells.specs.Columns.{cells_from, cells_of}
use Rattle.tso_cells.specs.Growing.{interval_at}
use Rattle.tso_cells.proofs.assembling.cells_at.Goals as goal
use Rattle.tso_cells.proofs.assembling.cells_at.Goals.{then-span+in_ok-push, else-span}

pub loop-array-preserved : goal.loop-array-preserved
loop-array-preserved c =
    let columns = c.args.columns.now in
    let a = c.loop-array.array in
    let i = c.args.i in
    let span = c.span_if-span.result in
    let column : List Interval = c.index-columns-array.result in
    let is : interval_at (get_or columns a column) i ≡ span =
    ap (λ (x : List Interval). interval_at x i) (sym c.index-columns-array.is ∙ sym c.as_slice.ensures) ∙ sym c.span_if-span.ensures in
    let all = cells_from 0 columns i in
    let P : List Cells → Type 0 = λ x. x ++ cells_from (a + 1) (drop (a + 1) columns) i ≡ all in
    elim c.if-span.branch [
      | then-span+in_ok-push w ↦
          let one : Cells = record { array = a; lo = span.lo; hi = span.hi } in
          let on = cells_on columns a i column c.loop-array.cells.items (one ∷ []) all c.loop-array-test.true c.loop-array.invariant (ap (cells_of a) is ∙ some_cells a span w.if-span.true) in
          let made : P w.push.new.self.items = subst P (sym w.in_ok-push.ensures.items) on in
          rw w.cells-is made
      | else-span w ↦
          let on : P c.loop-array.cells.items = cells_skip columns a i column c.loop-array.cells.items all c.loop-array-test.true c.loop-array.invariant (ap (cells_of a) is ∙ no_cells a span w.if-span.false) in
          rw w.cells-is on
    ]

pub returns : goal.returns
returns c = c.from_vec.ensures ∙ cells_end c.args.columns.now c.loop-array.array c.args.i c.loop-array.cells.items (cells_from 0 c.args.columns.now c.args.i) c.loop-array-test.false c.loop-array.invariant
