use Rattle.std.proofs.Common.{◌≡◌}
use Rattle.tso_pool.specs.Seats.{place_of}
use Rattle.tso_pool.proofs.working.work_on.Given as goal

abbrev pub invariant-loop : goal.invariant-loop
invariant-loop g l =
    (goal.iterator-loop g).can_next l.iterator' × (goal.iterator-loop g).is_finite l.iterator' × (place_of l.seat ≡ place_of l.fn.seat) × (l.share.parts ≡ l.fn.share.parts)
