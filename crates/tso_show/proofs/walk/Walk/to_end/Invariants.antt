use Rattle.std.proofs.Common.{◌≡◌}
use Rattle.tso_show.proofs.walk.Walk.to_end.Given as goal
use Rattle.tso_trace.specs.Walks.{StandsAt}

abbrev pub invariant-loop : goal.invariant-loop
invariant-loop l = (l.walk.position ≡ l.counter) × (l.walk.client ≡ l.checked.client) × (l.walk.labels ≡ l.labels) × StandsAt l.walk
