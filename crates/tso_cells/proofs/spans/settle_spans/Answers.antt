use Rattle.std.proofs.Common.{◌∙◌, true, refl}
use Rattle.tso_cells.proofs.Growth.{insides_trans}
use Rattle.tso_cells.proofs.spans.settle_spans.Goals as goal

pub grow-init : goal.grow-init
grow-init c = record { count = c.spread_rounds.ensures.count; keeps = c.spread_rounds.ensures.keeps; spans = c.spread_rounds.ensures.spans }

pub spread_back-requires-clause-within : goal.spread_back-requires-clause-within
spread_back-requires-clause-within c = c.grow.invariant.spans (λ n. true) (λ i step at j goes lt h. refl) c.requires.within

pub grow-preserved : goal.grow-preserved
grow-preserved c =
    let known = c.grow.invariant in
    let more = c.spread_back.ensures in
    record {
      count = more.grown.count ∙ known.count;
      keeps = insides_trans c.args.spans.now c.grow.spans c.spread_back.new.spans known.count known.keeps more.grown.keeps;
      spans = λ needs hands all. more.spans needs hands (known.spans needs hands all);
    }

pub grow-smaller : goal.grow-smaller
grow-smaller c = c.spread_back.ensures.grown.fewer refl c.if-not-spread_back.false

pub returns : goal.returns
returns c =
    let known = c.grow.invariant in
    let more = c.spread_back.ensures in
    record {
      count = more.grown.count ∙ known.count;
      keeps = insides_trans c.args.spans.now c.grow.spans c.spread_back.new.spans known.count known.keeps more.grown.keeps;
      taken = more.taken c.if-not-spread_back.true;
      spans = λ needs hands all. more.spans needs hands (known.spans needs hands all);
    }
