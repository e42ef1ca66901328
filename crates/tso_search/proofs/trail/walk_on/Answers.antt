use Rattle.std.proofs.Common.{◌-◌, ◌<◌, arith, length}
use Rattle.tso_flow.specs.Calls.{step_limit}
use Rattle.tso_search.proofs.WayLemmas.{differ, led_on, led_steps, same_by, trail_is_short}
use Rattle.tso_search.proofs.trail.walk_on.Goals as goal

pub step_on-requires-clause-step : goal.step_on-requires-clause-step
step_on-requires-clause-step c = led_steps c.args.checked.now.client c.steps.trail.state c.args.target.now c.args.actor c.steps.invariant.led (differ _ _ c.is_same.result c.is_same.ensures c.steps-test.true)

pub steps-smaller : goal.steps-smaller
steps-smaller c =
    let short = trail_is_short c.args.checked.now.client c.step_on.new.trail c.in_ok-step_on.ensures.trail in
    let more = c.in_ok-step_on.ensures.more in
    let less : step_limit c.args.checked.now.client - length c.step_on.new.trail.labels.items < step_limit c.args.checked.now.client - length c.steps.trail.labels.items = omega (arith, short, more) in
    less

pub steps-preserved : goal.steps-preserved
steps-preserved c = record {
  trail = c.in_ok-step_on.ensures.trail;
  led = led_on c.args.checked.now.client c.steps.trail.state c.step_on.new.trail.state c.args.target.now c.args.actor c.steps.invariant.led (differ _ _ c.is_same.result c.is_same.ensures c.steps-test.true) c.in_ok-step_on.ensures.step;
  more = (let a = c.steps.invariant.more in let b = c.in_ok-step_on.ensures.more in omega (arith, a, b));
}

pub returns-clause-there : goal.returns-clause-there
returns-clause-there c = same_by _ _ c.is_same.result c.is_same.ensures c.steps-test.false
