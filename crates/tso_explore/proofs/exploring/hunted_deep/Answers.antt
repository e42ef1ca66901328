use Rattle.std.proofs.Common.{arith}
use Rattle.tso_search.proofs.SearchLemmas.{room_both}
use Rattle.tso_explore.proofs.FirstLemmas.{first_found_as, hunting_on, paused_on}
use Rattle.tso_explore.proofs.exploring.hunted_deep.Goals as goal

pub hunt-requires-clause-hunting : goal.hunt-requires-clause-hunting
hunt-requires-clause-hunting c = hunting_on c.args.checked.now.client c.args.ground.now c.args.limit c.args.store.now c.args.origins.now.items c.args.marks.now c.args.number c.requires.paused

pub returns-in-Ok : goal.returns-in-Ok
returns-in-Ok c =
    paused_on c.args.checked.now.client c.args.ground.now c.args.limit c.args.store.now c.hunt.new.store c.args.origins.now.items c.hunt.new.origins.items c.args.marks.now c.hunt.new.marks c.args.number
    c.requires.paused c.hunt.ensures.client c.in-Ok.ensures.hunting c.in-Ok.ensures.stays (room_both c.args.ground.now _ _ _ _ _ _ c.hunt.ensures.room c.requires.room (λ a b. omega (arith, a, b)))

pub returns-in-Err : goal.returns-in-Err
returns-in-Err c = first_found_as c.args.checked.now.client c.args.limit c.args.ground.now c.hunt.new.store c.hunt.new.origins.items c.hunt.new.marks c.stopped_first.result c.stopped_first.ensures
