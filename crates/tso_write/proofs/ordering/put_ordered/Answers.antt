use Rattle.std.proofs.Common.{◌++◌, ◌∙◌, ap, map}
use Rattle.tso_write.proofs.OrderingLemmas.{group_ordered}
use Rattle.tso_write.proofs.ordering.put_ordered.Goals as goal

pub returns : goal.returns
returns c low high among =
    group_ordered c.args.standings.now low high c.args.group.now c.in_ok-all.all.items c.sort.new.self.items c.args.out.now.items _ c.in_ok-all.ensures c.in_ok-sort.ensures.permutation c.in_ok-sort.ensures.sorted
    (c.in_ok-put_numbers.ensures ∙ ap (λ ps. c.args.out.now.items ++ map (λ p. p.number) ps) c.as_slice.ensures.value) among
