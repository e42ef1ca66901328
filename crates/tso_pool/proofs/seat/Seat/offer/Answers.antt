use Rattle.tso_pool.proofs.Kept.{pushes_at}
use Rattle.tso_pool.proofs.seat.Seat.offer.Goals as goal

pub push_as-requires-clause-pushes : goal.push_as-requires-clause-pushes
push_as-requires-clause-pushes g c = pushes_at _ _ _ c.args.self.now.owner c.args.self.now.part
