use Rattle.std.proofs.Common.{◌≡◌, ◌∙◌, ◌+◌, List, ℕ, Some, ap, slice_get, subst, sym}
use Rattle.std.proofs.lemmas.Option.{slice_get-get_or}
use Rattle.tso_write.proofs.OrderingLemmas.{group_numbered, more_ordered}
use Rattle.tso_write.specs.Ordering.{AreAmong, AreNumbered, IsOrderedBehind}
use Rattle.tso_write.proofs.ordering.UnorderedTask.run.Goals as goal

pub put_ordered-requires : goal.put_ordered-requires
put_ordered-requires c =
    let p = c.args.self.now in
    let g = c.group-item.result in
    let i = c.loop-group.group-index in
    let at : slice_get p.groups.now i ≡ Some g = slice_get-get_or p.groups.now i g c.loop-group-test.true ∙ ap Some (sym c.group-item.is) in
    subst (AreNumbered p.standings.now) (sym c.as_slice.ensures) (group_numbered p.standings.now p.first i p.groups.now g c.requires.groups_are at)

pub loop-group-preserved : goal.loop-group-preserved
loop-group-preserved c =
    let p = c.args.self.now in
    let rows = p.standings.now in
    let g = c.group-item.result in
    let i = c.loop-group.group-index in
    let low = p.first + i in
    let at : slice_get p.groups.now i ≡ Some g = slice_get-get_or p.groups.now i g c.loop-group-test.true ∙ ap Some (sym c.group-item.is) in
    let among = subst (AreAmong rows low (low + 1)) (sym c.as_slice.ensures) (c.requires.groups_are i g at) in
    let behind = subst (λ (l : List ℕ). IsOrderedBehind rows low (low + 1) l c.loop-group.out.items c.put_ordered.new.out.items) c.as_slice.ensures (c.in_ok-put_ordered.ensures low (low + 1) among) in
    more_ordered rows p.first i p.groups.now g c.loop-group.out.items c.put_ordered.new.out.items at c.loop-group.invariant behind
