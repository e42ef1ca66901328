use Rattle.std.proofs.Common.{◌≡◌, drop}
use Rattle.tso_why.specs.Calls.{returned_in}
use Rattle.tso_why.proofs.call.returned_in.Given as goal

abbrev pub invariant-loop-at : goal.invariant-loop-at
invariant-loop-at l = returned_in l.thread l.at (drop l.at l.labels) ≡ returned_in l.thread l.behind (drop l.behind l.labels)
