use Rattle.std.proofs.Common.{◌≡◌, drop, find}
use Rattle.tso_why.specs.Whys.{surplus_call, answered, is_surplus, value_of}
use Rattle.tso_why.proofs.why.surplus_call.Given as goal

abbrev pub invariant-loop-call : goal.invariant-loop-call
invariant-loop-call l = surplus_call l.calls ≡ find (λ c. is_surplus l.calls (value_of (answered c.returns))) (drop l.call-index l.calls)
