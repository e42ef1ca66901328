use Rattle.std.proofs.Common.{◌≡◌, ◌∙◌, List, ℕ, Option, length, ap, sym, subst, arith}
use Rattle.tso_flow.specs.Paths.{next_of, target_of}
use Rattle.tso_cells.specs.Intervals.{IsInside}
use Rattle.tso_cells.specs.declared.interval.Interval.{Interval}
use Rattle.std.proofs.lemmas.Bool.{or_parts}
use Rattle.tso_cells.proofs.RowLemmas.{goes_next, goes_target}
use Rattle.tso_cells.proofs.SpanLemmas.{held_by, kept, other_span, some_inside, taken_still, two_grown, two_spans}
use Rattle.tso_cells.specs.Growing.{interval_at}
use Rattle.tso_cells.specs.Spans.{IsSpan, span_if}
use Rattle.tso_cells.proofs.spans.take_back.Goals as goal

pub returns : goal.returns
returns c =
    let g = c.args.growth in
    let w = c.args.whole in
    let spans = c.args.spans.now in
    let i = c.args.i in
    let step = c.args.step in
    let mid = c.grow-is_grown.new.intervals in
    let new = c.grow-is_grown-2.new.intervals in
    let one = c.grow-is_grown.ensures in
    let other = c.grow-is_grown-2.ensures in
    let is_next = subst (λ (o : Option ℕ). c.span_if-next.result ≡ span_if spans o) c.next_position.ensures c.span_if-next.ensures in
    let is_target = subst (λ (o : Option ℕ). c.span_if-target.result ≡ span_if spans o) c.jump_target.ensures c.span_if-target.ensures in
    let next = subst (λ (x : Interval). IsInside x w) (sym is_next) (some_inside w spans (next_of step i) c.requires.small c.requires.within) in
    let target = subst (λ (x : Interval). IsInside x w) (sym is_target) (some_inside w spans (target_of step) c.requires.small c.requires.within) in
    record {
      grown = two_grown g w spans mid new i c.span_if-next.result c.span_if-target.result c.grow-is_grown.result c.grow-is_grown-2.result c.requires.inside next target one.set one.flag other.set other.flag;
      taken = λ none.
          let both = or_parts c.grow-is_grown.result c.grow-is_grown-2.result none in
          let first = kept g w spans mid i c.span_if-next.result c.grow-is_grown.result c.requires.inside next one.set one.flag both.0 in
          let last = kept g w mid new i c.span_if-target.result c.grow-is_grown-2.result (omega (arith, c.requires.inside, ap length first)) target other.set other.flag both.1 in
          taken_still step i spans new (last ∙ first)
          (subst (λ (x : Interval). IsInside x (interval_at spans i)) is_next (held_by c.span_if-next.result (interval_at spans i) c.grow-is_grown.result one.flag both.0))
          (subst (λ (x : Interval). IsInside x (interval_at spans i)) is_target
          (subst (λ (x : List Interval). IsInside c.span_if-target.result (interval_at x i)) first (held_by c.span_if-target.result (interval_at mid i) c.grow-is_grown-2.result other.flag both.1)));
      spans = λ needs hands all.
          two_spans g w needs spans mid new i c.span_if-next.result c.span_if-target.result c.requires.small
          (subst (λ (x : Interval). IsSpan w (needs i) x) (sym is_next) (other_span w needs spans step i (next_of step i) (goes_next step i) hands all))
          (subst (λ (x : Interval). IsSpan w (needs i) x) (sym is_target) (other_span w needs spans step i (target_of step) (goes_target step i) hands all)) one.set other.set all;
    }
