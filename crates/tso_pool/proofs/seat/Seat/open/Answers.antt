use Rattle.tso_pool.proofs.Kept.{forks_at}
use Rattle.tso_pool.proofs.seat.Seat.open.Goals as goal

pub another-pass-requires : goal.another-pass-requires
another-pass-requires g c = forks_at _ _ c.args.self.now.owner c.requires
