use Rattle.std.proofs.Common.{◌≡◌, drop, find}
use Rattle.tso_why.specs.Whys.{passed_by, answered, is_passed, value_of}
use Rattle.tso_why.proofs.why.passed_by.Given as goal

abbrev pub invariant-loop-push : goal.invariant-loop-push
invariant-loop-push l = passed_by l.calls l.pop ≡ find (is_passed l.calls l.pop (value_of (answered l.pop.returns))) (drop l.push-index l.calls)
