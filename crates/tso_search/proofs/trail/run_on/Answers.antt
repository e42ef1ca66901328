use Rattle.std.proofs.Common.{◌-◌, ◌<◌, arith, length}
use Rattle.tso_flow.specs.Calls.{step_limit}
use Rattle.tso_move.proofs.RunLemmas.{leads_on, stops_there}
use Rattle.tso_move.specs.Free.{HasNoFree, IsLowestFree}
use Rattle.tso_search.proofs.WayLemmas.{trail_is_short}
use Rattle.tso_search.proofs.trail.run_on.Goals as goal

pub run-smaller : goal.run-smaller
run-smaller c =
    let short = trail_is_short c.args.checked.now.client c.move_on.new.trail c.in_ok-move_on.ensures.trail in
    let more = c.in_ok-move_on.ensures.more in
    let less : step_limit c.args.checked.now.client - length c.move_on.new.trail.labels.items < step_limit c.args.checked.now.client - length c.run.trail.labels.items = omega (arith, short, more) in
    less

pub run-preserved : goal.run-preserved
run-preserved c =
    let free : IsLowestFree c.args.checked.now.client c.args.own.now c.args.table.now c.run.trail.state c.in-Some.actor = rw c.in-Some.is at c.in_ok-actor.ensures in
    record {
      trail = c.in_ok-move_on.ensures.trail;
      leads = leads_on c.args.checked.now.client c.args.own.now c.args.table.now c.args.trail.now.state c.run.trail.state c.move_on.new.trail.state c.run.invariant.leads
          (record { actor = c.in-Some.actor; well_formed = c.run.invariant.trail.plausible.well_formed; free = free; move = c.in_ok-move_on.ensures.moved });
    }

pub returns-clause-run : goal.returns-clause-run
returns-clause-run c =
    let none : HasNoFree c.args.checked.now.client c.args.own.now c.args.table.now c.run.trail.state = rw c.in_default.is at c.in_ok-actor.ensures in
    stops_there c.args.checked.now.client c.args.own.now c.args.table.now c.args.trail.now.state c.run.trail.state c.run.invariant.leads (λ well. none)
