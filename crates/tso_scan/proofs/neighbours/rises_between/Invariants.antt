use Rattle.std.specs.Prelude.{◌≡◌}
use Rattle.tso_scan.proofs.neighbours.rises_between.Given as goal
use Rattle.tso_scan.specs.Neighbours.{RisesBetween}

abbrev pub invariant-loop-number : goal.invariant-loop-number
invariant-loop-number l = RisesBetween l.states.states l.from l.number × (l.rising ≡ l.states.states)
