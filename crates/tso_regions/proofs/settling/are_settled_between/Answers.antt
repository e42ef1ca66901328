use Rattle.std.proofs.Common.{◌∙◌, Some, ap, arith, sym}
use Rattle.std.proofs.lemmas.Option.{slice_get-get_or}
use Rattle.tso_regions.proofs.SettlingLemmas.{settled_more}
use Rattle.tso_regions.proofs.settling.are_settled_between.Goals as goal

pub loop-place-preserved : goal.loop-place-preserved
loop-place-preserved g c =
    let region = c.index-regions-place.result in
    let less = c.loop-place-test.true in
    let there = c.requires.there in
    let here = slice_get-get_or c.args.regions.now c.loop-place.place region (omega (arith, less, there)) ∙ ap Some (sym c.index-regions-place.is) in
    settled_more g.U.Realm.client g.U.Realm.table c.args.count c.args.regions.now c.args.from c.loop-place.place region c.loop-place.invariant here (c.in_ok-is_settled.ensures c.if-not-branch.false)
    c.is_known.ensures.met c.is_known.ensures.differ c.is_known.ensures.done

pub returns : goal.returns
returns g c = λ is client table i d a b low high at. c.loop-place.invariant client table i d a b low (omega (arith, high, c.loop-place-test.false)) at
