use Rattle.std.proofs.Common.{◌≡◌, ◌+◌, vec_len, length}
use Rattle.tso_pool.proofs.crew.jobs_of.Given as goal

abbrev pub invariant-loop-seat : goal.invariant-loop-seat
invariant-loop-seat g l = (vec_len l.jobs + length l.seat-iterator.rest.items ≡ vec_len l.fn.seats) × (l.share.parts ≡ length l.seat-iterator.rest.items + 1)
