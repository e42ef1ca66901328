use Rattle.std.proofs.Common.{◌≡◌, ◌++◌, drop}
use Rattle.tso_why.specs.Calls.{calls_from}
use Rattle.tso_why.proofs.call.calls_in.Given as goal

abbrev pub invariant-loop-at : goal.invariant-loop-at
invariant-loop-at l = l.calls.items ++ calls_from l.at (drop l.at l.labels) ≡ calls_from 0 l.labels
