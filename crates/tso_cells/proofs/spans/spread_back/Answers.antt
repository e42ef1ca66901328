use Rattle.std.proofs.Common.{◌∙◌, true, List, length, refl, arith, sym, subst}
use Rattle.std.proofs.lemmas.Option.{slice_get_within}
use Rattle.tso_cells.specs.declared.interval.Interval.{Interval}
use Rattle.tso_cells.proofs.Growth.{none_grown, then_grown}
use Rattle.std.proofs.lemmas.Bool.{or_parts}
use Rattle.tso_cells.proofs.SpanLemmas.{hands_at, taken_on}
use Rattle.tso_cells.specs.Spans.{AreTaken}
use Rattle.tso_cells.proofs.spans.spread_back.Goals as goal

pub loop-i-init : goal.loop-i-init
loop-i-init c = record { grown = none_grown c.args.growth c.args.whole c.args.spans.now; taken = λ none i step lt. absurd (omega (arith, lt)); spans = λ needs hands all. all }

pub take_back-is_grown-requires-clause-within : goal.take_back-is_grown-requires-clause-within
take_back-is_grown-requires-clause-within c = c.loop-i.invariant.spans (λ n. true) (λ i step at j goes lt h. refl) c.requires.within

pub loop-i-preserved : goal.loop-i-preserved
loop-i-preserved c =
    let known = c.loop-i.invariant in
    let more = c.take_back-is_grown.ensures in
    let steps = c.args.steps.now in
    record {
      grown = then_grown c.args.growth c.args.whole c.args.spans.now c.loop-i.spans c.take_back-is_grown.new.spans c.loop-i.is_grown c.take_back-is_grown.result known.grown more.grown;
      taken = λ none.
          let both = or_parts c.loop-i.is_grown c.take_back-is_grown.result none in
          let same = more.grown.same both.1 in
          taken_on steps c.take_back-is_grown.new.spans c.loop-i.i _ (subst (λ (spans : List Interval). AreTaken steps spans c.loop-i.i) (sym same) (known.taken both.0)) (more.taken both.1);
      spans = λ needs hands all. more.spans needs (hands_at steps c.loop-i.i _ (length c.loop-i.spans) needs c.loop-i-test.true (known.grown.count ∙ c.requires.same) hands) (known.spans needs hands all);
    }

pub returns : goal.returns
returns c = record {
  grown = c.loop-i.invariant.grown;
  taken = λ none i step lt at. c.loop-i.invariant.taken none i step (let past = c.loop-i-test.false in let within = slice_get_within c.args.steps.now i step at in omega (arith, past, within)) at;
  spans = c.loop-i.invariant.spans;
}
