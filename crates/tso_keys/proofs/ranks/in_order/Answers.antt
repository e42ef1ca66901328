use Rattle.std.proofs.Common.{◌∙◌, List, ℕ, ap, arith, length, rules, slice_get, subst}
use Rattle.std.specs.List.Sorted.{IsPermutation}
use Rattle.tso_keys.specs.Orders.{numbers_below}
use Rattle.tso_keys.proofs.Ranked.{length_below}
use Rattle.tso_keys.proofs.Risen.{rising_with}
use Rattle.tso_keys.proofs.ranks.in_order.Goals as goal

pub returns : goal.returns
returns g c =
    let laws = g.met.T.Ord in
    record {
      order = record {
        all = subst (λ (ns : List ℕ). IsPermutation ns c.sort_by.new.self.items) (c.in_ok-numbers.ensures ∙ ap numbers_below c.len.ensures.value) c.sort_by.ensures.permutation;
        rising = rising_with g.T.Ord.cmp laws.total (slice_get c.args.pool.now) c.sort_by.new.self.items c.in_ok-sort_by.ensures.sorted (λ a r f' k. search rules);
      };
      few = let h = c.sort_by.ensures.len in let g = ap length c.in_ok-numbers.ensures ∙ length_below c.len.result in omega (arith, h, g, c.len.ensures.below);
    }
