use Rattle.tso_pool.proofs.Kept.{learns_at}
use Rattle.tso_pool.proofs.seat.Seat.count.Goals as goal

pub len_as-requires : goal.len_as-requires
len_as-requires g c = learns_at _ _ c.args.self.now.owner
