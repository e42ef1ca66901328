use Rattle.tso_pool.proofs.Kept.{takes}
use Rattle.tso_pool.proofs.seat.Seat.find.Goals as goal

pub pop_as-requires-clause-fifo : goal.pop_as-requires-clause-fifo
pop_as-requires-clause-fifo g c _ = takes _ _ 1 c.args.self.now.part
