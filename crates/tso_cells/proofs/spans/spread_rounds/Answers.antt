use Rattle.std.proofs.Common.{◌∙◌, true, refl}
use Rattle.tso_cells.proofs.Growth.{insides_refl, insides_trans}
use Rattle.tso_cells.proofs.spans.spread_rounds.Goals as goal

pub loop-round-init : goal.loop-round-init
loop-round-init c = record { count = refl; keeps = insides_refl c.args.spans.now; spans = λ needs hands all. all }

pub spread_back-requires-clause-within : goal.spread_back-requires-clause-within
spread_back-requires-clause-within c = c.loop-round.invariant.spans (λ n. true) (λ i step at j goes lt h. refl) c.requires.within

pub loop-round-preserved : goal.loop-round-preserved
loop-round-preserved c =
    let known = c.loop-round.invariant in
    let more = c.spread_back.ensures in
    record {
      count = more.grown.count ∙ known.count;
      keeps = insides_trans c.args.spans.now c.loop-round.spans c.spread_back.new.spans known.count known.keeps more.grown.keeps;
      spans = λ needs hands all. more.spans needs hands (known.spans needs hands all);
    }
