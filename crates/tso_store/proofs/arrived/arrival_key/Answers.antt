use Rattle.tso_keys.proofs.Procedures.{running_grows}
use Rattle.tso_store.proofs.Arrivals.{arrived, moved_kept, moved_stops}
use Rattle.tso_store.proofs.Movements.{grows_on}
use Rattle.tso_store.specs.Arriving.{IsMoveOf}
use Rattle.tso_store.proofs.arrived.arrival_key.Goals as goal

pub arrive_key-requires-clause-kept : goal.arrive_key-requires-clause-kept
arrive_key-requires-clause-kept c =
    let by : IsMoveOf c.args.checked.now.client c.args.own.now c.args.parts.now c.args.key.now c.args.actor c.move_key.new.parts c.in-Some.after = rw c.in-Some.is at c.in_ok-after.ensures.moves in
    moved_kept c.args.checked.now.client c.args.own.now c.args.parts.now c.move_key.new.parts c.args.key.now c.in-Some.after c.args.actor (c.move_key.ensures.grows.small c.requires.small) by

pub arrive_key-requires-clause-one_stop : goal.arrive_key-requires-clause-one_stop
arrive_key-requires-clause-one_stop c =
    let by : IsMoveOf c.args.checked.now.client c.args.own.now c.args.parts.now c.args.key.now c.args.actor c.move_key.new.parts c.in-Some.after = rw c.in-Some.is at c.in_ok-after.ensures.moves in
    moved_stops c.args.checked.now.client c.args.checked.now.no_fault c.args.own.now c.args.table.now c.args.parts.now c.move_key.new.parts c.args.key.now c.in-Some.after c.args.actor (c.move_key.ensures.grows.small c.requires.small) c.requires.one_stop by

pub arrive_key-requires-clause-small : goal.arrive_key-requires-clause-small
arrive_key-requires-clause-small c = c.move_key.ensures.grows.small c.requires.small

pub arrive_key-requires-clause-running : goal.arrive_key-requires-clause-running
arrive_key-requires-clause-running c = running_grows c.args.parts.now.histories c.move_key.new.parts.histories c.args.running.now c.move_key.ensures.grows.histories c.requires.running

pub returns-clause-arrival : goal.returns-clause-arrival
returns-clause-arrival c =
    let by : IsMoveOf c.args.checked.now.client c.args.own.now c.args.parts.now c.args.key.now c.args.actor c.move_key.new.parts c.in-Some.after = rw c.in-Some.is at c.in_ok-after.ensures.moves in
    arrived c.args.checked.now.client c.args.own.now c.args.table.now c.args.parts.now c.move_key.new.parts c.arrive_key.new.parts c.args.key.now c.in-Some.after c.in_ok-stop.stop c.args.actor (c.move_key.ensures.grows.small c.requires.small) by c.in_ok-stop.ensures.stops

pub returns-clause-grows : goal.returns-clause-grows
returns-clause-grows c = grows_on c.args.parts.now c.move_key.new.parts c.arrive_key.new.parts c.move_key.ensures.grows c.arrive_key.ensures.grows

pub returns-in_err-stop-clause-grows : goal.returns-in_err-stop-clause-grows
returns-in_err-stop-clause-grows c = grows_on c.args.parts.now c.move_key.new.parts c.arrive_key.new.parts c.move_key.ensures.grows c.arrive_key.ensures.grows
