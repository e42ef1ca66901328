use Rattle.std.proofs.Common.{vec_len}
use Rattle.tso_pool.specs.Linked.{places, AreLinked, AreClosed}
use Rattle.tso_pool.proofs.closing.tickets_left.Given as goal

abbrev pub invariant-loop-count : goal.invariant-loop-count
invariant-loop-count g l = record { linked : AreLinked (places l.seats.items); closed : AreClosed l.initial.seats.items l.seats.items l.left }

abbrev pub decreases-loop-count : goal.decreases-loop-count
decreases-loop-count g l = vec_len l.seats
