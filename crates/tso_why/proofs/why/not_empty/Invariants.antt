use Rattle.std.proofs.Common.{◌≡◌, drop, find}
use Rattle.tso_why.specs.Whys.{not_empty}
use Rattle.tso_why.proofs.why.not_empty.Given as goal

abbrev pub invariant-loop-pop : goal.invariant-loop-pop
invariant-loop-pop l = not_empty l.calls l.calls ≡ not_empty l.calls (drop l.pop-index l.calls)
