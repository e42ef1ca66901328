use Rattle.std.proofs.Common.{◌≡◌, drop, find}
use Rattle.tso_why.specs.Whys.{is_left}
use Rattle.tso_why.proofs.why.first_left.Given as goal

abbrev pub invariant-loop-push : goal.invariant-loop-push
invariant-loop-push l = find (is_left l.calls l.pop) l.calls ≡ find (is_left l.calls l.pop) (drop l.push-index l.calls)
