use Rattle.std.proofs.Common.{◌≡◌}
use Rattle.tso_pool.specs.Seats.{place_of}
use Rattle.tso_cases.proofs.ticket.offer_all.Given as goal

abbrev pub invariant-loop-ticket : goal.invariant-loop-ticket
invariant-loop-ticket l = place_of l.seat ≡ place_of l.fn.seat
