use Rattle.tso_pool.proofs.Tallies.{reached}
use Rattle.tso_pool.proofs.seat.Seat.reach.Goals as goal

pub returns-clause-tally : goal.returns-clause-tally
returns-clause-tally g c = reached _ _ _ c.args.self.now.others.items c.push.new.self.items _ c.in_ok-push.ensures.items
