use Rattle.std.proofs.Common.{◌∙◌, ap, arith, length}
use Rattle.std.proofs.lemmas.List.{length-set}
use Rattle.std.proofs.lemmas.Option.{slice_get-get_or, slice_get_within}
use Rattle.tso_keys.proofs.Ranked.{length_below, places_more}
use Rattle.tso_keys.proofs.ranks.places_in.Goals as goal

pub loop-place-init : goal.loop-place-init
loop-place-init c = (ap length c.in_ok-ranks.ensures ∙ length_below c.args.count, λ i n less at. absurd (omega (arith, less)))

pub put_rank-requires : goal.put_rank-requires
put_rank-requires c =
    let here = slice_get-get_or c.args.order.now c.loop-place.place 0 (omega (arith, c.loop-place-test.true)) in
    let below = c.requires.below c.loop-place.place _ here in
    omega (arith, below, c.loop-place.invariant.0)

pub loop-place-preserved : goal.loop-place-preserved
loop-place-preserved c =
    let here = slice_get-get_or c.args.order.now c.loop-place.place 0 (omega (arith, c.loop-place-test.true)) in
    let below = c.requires.below c.loop-place.place _ here in (
      ap length c.put_rank.ensures ∙ length-set c.loop-place.ranks.items _ c.loop-place.place ∙ c.loop-place.invariant.0,
      places_more c.args.order.now c.loop-place.ranks.items c.put_rank.new.ranks.items c.loop-place.place _ here (omega (arith, below, c.loop-place.invariant.0)) c.put_rank.ensures c.loop-place.invariant.1,
    )

pub returns-clause-places : goal.returns-clause-places
returns-clause-places c = λ i n at. c.loop-place.invariant.1 i n (let less = slice_get_within c.args.order.now i n at in omega (arith, less, c.loop-place-test.false)) at
