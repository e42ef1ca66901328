use Rattle.std.proofs.Common.{◌≡◌, ◌∙◌, ℕ, List, Some, ap, arith, length, slice_get, subst, sym}
use Rattle.tso_keys.proofs.Ranked.{equal_is_same, order_below, ranked}
use Rattle.tso_keys.specs.Orders.{HasPlace}
use Rattle.tso_keys.proofs.ranks.ranks_of.Goals as goal

pub places_in-requires-clause-below : goal.places_in-requires-clause-below
places_in-requires-clause-below g c = λ i n at.
    let less = order_below (length c.args.pool.now) c.in_ok-order.order.items i n c.in_ok-order.ensures.order.all (ap (λ (ns : List ℕ). slice_get ns i) (sym c.as_slice.ensures.value) ∙ at) in
    omega (arith, less, c.len.ensures.value)

pub returns : goal.returns
returns g c =
    let exact = g.met.T.Exact.exact in
    let laws = g.met.T.Ord in
    ranked g.T.Ord.cmp laws.total (equal_is_same _ g.T.Ord.cmp exact laws.matches_eq) c.args.pool.now c.in_ok-order.order.items c.in_ok-ranks.ranks.items c.is_numbered.ensures.numbered c.in_ok-order.ensures.order
    (c.in_ok-ranks.ensures.len ∙ c.len.ensures.value) (subst (λ (ns : List ℕ). (i n : ℕ) → slice_get ns i ≡ Some n → HasPlace ns c.in_ok-ranks.ranks.items n) c.as_slice.ensures.value c.in_ok-ranks.ensures.places)
