use Rattle.std.proofs.Common.{◌∙◌, true, ap, length, List, refl, sym, subst}
use Rattle.tso_cells.specs.declared.interval.Interval.{Interval}
use Rattle.tso_cells.proofs.ListLemmas.{written}
use Rattle.tso_cells.proofs.OwnSpans.{column_is, own_spans_are}
use Rattle.tso_cells.specs.Columns.{AreOwnSpans}
use Rattle.tso_cells.specs.Spans.{AreSpans}
use Rattle.tso_cells.proofs.columns.column.Goals as goal

pub settle_spans-requires : goal.settle_spans-requires
settle_spans-requires c =
    let arrays = c.args.arrays.now in
    let slice = c.as_mut_slice.result.now in
    let own = subst (λ (x : List Interval). AreOwnSpans c.args.access arrays c.args.steps.now c.args.rows.now c.args.array x) (sym c.as_mut_slice.ensures.value) c.in_ok-spans.ensures in
    record {
      same = own.count;
      small = c.whole_of.ensures.small;
      within = subst (λ (w : Interval). AreSpans w (λ n. true) slice) (sym c.whole_of.ensures.is)
          (own_spans_are c.args.access arrays c.args.steps.now c.args.rows.now c.args.array slice (λ n. true) c.requires own (λ i step at e. refl));
    }

pub returns : goal.returns
returns c =
    let arrays = c.args.arrays.now in
    let slice = c.as_mut_slice.result.now in
    let new = c.settle_spans.new.spans in
    let made = c.settle_spans.ensures in
    let first = c.in_ok-spans.spans in
    let own = subst (λ (x : List Interval). AreOwnSpans c.args.access arrays c.args.steps.now c.args.rows.now c.args.array x) (sym c.as_mut_slice.ensures.value) c.in_ok-spans.ensures in
    let column = column_is c.args.access arrays c.args.steps.now c.args.rows.now c.args.array slice new c.requires own made.count made.keeps made.taken
    (λ needs hands all. subst (λ (w : Interval). AreSpans w needs new) c.whole_of.ensures.is (made.spans needs hands (subst (λ (w : Interval). AreSpans w needs slice) (sym c.whole_of.ensures.is) all))) in
    rw (c.from_vec.ensures, written new first.items first.len (made.count ∙ ap length c.as_mut_slice.ensures.value) first.ok.0) column
