use Rattle.std.proofs.Common.{◌≡◌, drop, find}
use Rattle.tso_why.specs.Whys.{has_room}
use Rattle.tso_why.proofs.why.refused_push.Given as goal

abbrev pub invariant-loop-push : goal.invariant-loop-push
invariant-loop-push l = find (has_room l.capacity l.calls) l.calls ≡ find (has_room l.capacity l.calls) (drop l.push-index l.calls)
