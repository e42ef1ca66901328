use Rattle.std.proofs.Common.{◌∙◌, List, ℕ, ap, arith, length, rules, subst}
use Rattle.std.proofs.lemmas.Fn.{always_returns_same}
use Rattle.std.specs.List.Sorted.{IsPermutation}
use Rattle.tso_keys.proofs.Listings.{rising_by_ranks}
use Rattle.tso_keys.proofs.Ranked.{length_below}
use Rattle.tso_keys.specs.Listing.{ranked_row}
use Rattle.tso_keys.proofs.listing.Listing.order.Goals as goal

pub returns-clause-order : goal.returns-clause-order
returns-clause-order c =
    let inside = c.self.inside in
    let key = ranked_row inside.ranks.items inside.rows.items in
    rw (← c.self.view_is) (record {
      all = subst (λ (ns : List ℕ). IsPermutation ns c.sort_by_cached_key.new.self.items) c.in_ok-numbers.ensures c.sort_by_cached_key.ensures.permutation;
      rising = rising_by_ranks inside.lists inside.ranks.items inside.histories.now inside.rows.items c.self.invariant c.sort_by_cached_key.new.self.items (c.in_ok-sort_by_cached_key.ensures.sorted key (always_returns_same _ _ _ (λ a r f' k. search rules)));
    })

pub returns-clause-few : goal.returns-clause-few
returns-clause-few c =
    let h = c.sort_by_cached_key.ensures.len in
    let g = ap length c.in_ok-numbers.ensures ∙ length_below (length c.self.inside.histories.now) in
    let same = ap length c.self.view_is in
    omega (arith, h, g, same, c.requires)
