use Rattle.tso_write.proofs.OrderingLemmas.{halves_ordered}
use Rattle.tso_write.proofs.ordering.UnorderedTask.joined.Goals as goal

pub returns : goal.returns
returns c =
    let p = c.args.self.now in
    let left = c.args._left.now in
    let right = c.args._right.now in
    halves_ordered p.standings.now p.first p.groups.now left.standings.now left.first left.groups.now right.standings.now right.first right.groups.now _ _ _ c.requires.halves c.requires.first c.requires.second c.in_ok-append.ensures.items
