use Rattle.std.proofs.Common.{◌≡◌, ◌∙◌, Some, ap, slice_get, sym}
use Rattle.std.proofs.lemmas.Option.{slice_get-get_or}
use Rattle.tso_regions.proofs.SettlingLemmas.{held_abroad, own_next}
use Rattle.tso_regions.proofs.settling.look_at.Goals as goal

pub returns-then-owner-place-clause-own : goal.returns-then-owner-place-clause-own
returns-then-owner-place-clause-own g c = λ is.
    let key = c.in-Some.key.now in
    let owner = c.in-Some-get.owner.now in
    let here : slice_get c.args.owners.now key.history ≡ Some owner = slice_get-get_or c.args.owners.now key.history owner c.in-Some-get.ensures.lookup.3.0 ∙ ap Some (sym (c.in-Some-get.ensures.lookup.3.1 owner)) in
    own_next c.args.count c.args.place c.args.owners.now c.args.keys.now c.args.region.now c.args.number c.args.before owner key c.requires (sym c.in-Some.ensures) here c.if-owner-place.true (c.own_standing.ensures.next is) (c.own_standing.ensures.worked is)

pub returns-in-Some-Some-clause-held : goal.returns-in-Some-Some-clause-held
returns-in-Some-Some-clause-held g c = λ is.
    let key = c.in-Some.key.now in
    let owner = c.in-Some-get.owner.now in
    let keeper = c.in-Some-Some.keeper.now in
    let here : slice_get c.args.owners.now key.history ≡ Some owner = slice_get-get_or c.args.owners.now key.history owner c.in-Some-get.ensures.lookup.3.0 ∙ ap Some (sym (c.in-Some-get.ensures.lookup.3.1 owner)) in
    let kept : slice_get c.args.regions.now owner ≡ Some keeper = slice_get-get_or c.args.regions.now owner keeper c.in-Some-Some.ensures'.lookup.3.0 ∙ ap Some (sym (c.in-Some-Some.ensures'.lookup.3.1 keeper)) in
    held_abroad c.args.count c.args.place c.args.owners.now c.args.keys.now c.args.regions.now c.args.region.now keeper c.args.number owner key c.in-Some-Some.view c.requires (sym c.in-Some.ensures) here c.if-owner-place.false (sym c.in-Some-Some.ensures) kept (c.held_standing.ensures.held is)
