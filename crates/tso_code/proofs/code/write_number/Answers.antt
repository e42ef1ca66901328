use Rattle.std.proofs.Common.{arith, refl}
use Rattle.tso_code.specs.Numbers.{number}
use Rattle.tso_code.proofs.DigitLemmas.{one_more, last_one}
use Rattle.tso_code.proofs.code.write_number.Goals as goal

pub loop-rest-init : goal.loop-rest-init
loop-rest-init c = (9, omega arith, refl)

pub loop-rest-preserved : goal.loop-rest-preserved
loop-rest-preserved c = rw c.in_ok-push.ensures.items (one_more c.loop-rest.out.items _ c.loop-rest.invariant.0 c.loop-rest.rest c.loop-rest-test.true c.loop-rest.invariant.1 c.loop-rest.invariant.2)

pub returns : goal.returns
unfolding number
returns c = rw c.in_ok-push-2.ensures.items (last_one c.loop-rest.out.items _ c.loop-rest.invariant.0 c.loop-rest.rest c.loop-rest-test.false c.loop-rest.invariant.2)
