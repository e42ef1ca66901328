use Rattle.std.proofs.Common.{◌≡◌, drop, find}
use Rattle.tso_why.specs.Whys.{overtaken}
use Rattle.tso_why.proofs.why.overtaken.Given as goal

abbrev pub invariant-loop-pop : goal.invariant-loop-pop
invariant-loop-pop l = overtaken l.calls l.calls ≡ overtaken l.calls (drop l.pop-index l.calls)
