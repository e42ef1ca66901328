use Rattle.tso_write.proofs.OrderingLemmas.{halves_grouped}
use Rattle.tso_write.proofs.ordering.UnorderedTask.halves.Goals as goal

pub returns : goal.returns
returns c =
    let p = c.args.self.now in
    halves_grouped p.standings.now p.first c.half_of-half.result p.groups.now c.split_at.result.0.now c.split_at.result.1.now c.split_at.ensures.front c.split_at.ensures.back c.half_of-half.ensures.rest c.requires
