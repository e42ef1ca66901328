use Rattle.std.proofs.Common.{◌≡◌, ◌∙◌, ℕ, List, Some, ap, arith, length, slice_get, subst, sym}
use Rattle.tso_keys.proofs.Listings.{histories_differ, history_total}
use Rattle.tso_keys.proofs.Ranked.{order_below, ranked}
use Rattle.tso_keys.specs.Orders.{HasPlace, history_cmp}
use Rattle.tso_keys.proofs.listing.ranks_by_lists.Goals as goal

pub places_in-requires-clause-below : goal.places_in-requires-clause-below
places_in-requires-clause-below c = λ i n at.
    let less = order_below (length c.args.listing) c.in_ok-order.order.items i n c.in_ok-order.ensures.order.all (ap (λ (ns : List ℕ). slice_get ns i) (sym c.as_slice.ensures.value) ∙ at) in
    omega (arith, less, c.requires.count)

pub returns : goal.returns
returns c =
    ranked history_cmp history_total histories_differ c.args.listing c.in_ok-order.order.items c.in_ok-ranks.ranks.items c.requires.differ c.in_ok-order.ensures.order
    (c.in_ok-ranks.ensures.len ∙ c.requires.count) (subst (λ (ns : List ℕ). (i n : ℕ) → slice_get ns i ≡ Some n → HasPlace ns c.in_ok-ranks.ranks.items n) c.as_slice.ensures.value c.in_ok-ranks.ensures.places)
