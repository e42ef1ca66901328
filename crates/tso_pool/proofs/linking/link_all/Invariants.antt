use Rattle.tso_pool.proofs.Meeting.{IsMeeting}
use Rattle.tso_pool.proofs.linking.link_all.Given as goal

abbrev pub invariant-loop-seat : goal.invariant-loop-seat
invariant-loop-seat g l = IsMeeting l.initial.newcomer l.newcomer l.initial.seats l.seats l.seat-index
