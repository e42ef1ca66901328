use Rattle.std.proofs.Common.{arith}
use Rattle.tso_search.proofs.SearchLemmas.{room_both}
use Rattle.tso_explore.proofs.FirstLemmas.{first_found_as, hunting_on, paused_on}
use Rattle.tso_explore.proofs.exploring.probed_on.Goals as goal

pub probe-requires-clause-hunting : goal.probe-requires-clause-hunting
probe-requires-clause-hunting c = hunting_on c.args.checked.now.client c.args.ground.now c.args.limit c.args.store.now c.args.origins.now.items c.args.marks.now c.args.number c.requires.paused

pub hunted_on-requires-clause-paused : goal.hunted_on-requires-clause-paused
hunted_on-requires-clause-paused c =
    paused_on c.args.checked.now.client c.args.ground.now c.args.limit c.args.store.now c.probe.new.store c.args.origins.now.items c.probe.new.origins.items c.args.marks.now c.probe.new.marks c.args.number
    c.requires.paused c.probe.ensures.client c.in-Ok.ensures.hunting c.in-Ok.ensures.stays (room_both c.args.ground.now _ _ _ _ _ _ c.in-Ok.ensures.room c.requires.room (λ a b. omega (arith, a, b)))

pub returns-in-Err : goal.returns-in-Err
returns-in-Err c = first_found_as c.args.checked.now.client c.args.limit c.args.ground.now c.probe.new.store c.probe.new.origins.items c.probe.new.marks c.stopped_first.result c.stopped_first.ensures
