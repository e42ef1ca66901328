use Rattle.tso_search.proofs.WayLemmas.{move_led}
use Rattle.tso_search.proofs.trail.move_on.Goals as goal

pub walk_on-requires-clause-led : goal.walk_on-requires-clause-led
walk_on-requires-clause-led c =
    move_led c.args.checked.now.client c.args.own.now c.args.trail.now.state c.step_on.new.trail.state c.in_ok-target.target c.args.actor c.in_ok-target.ensures c.in_ok-step_on.ensures.step
