use Rattle.tso_keys.proofs.Procedures.{running_grows}
use Rattle.tso_move.specs.Free.{HasNoFree}
use Rattle.tso_keys.specs.Keys.{state_at}
use Rattle.tso_store.proofs.Arrivals.{costs_less, goes_on, starts, stops_on}
use Rattle.tso_store.proofs.Movements.{grows_on}
use Rattle.tso_store.specs.Arriving.{IsNextOf}
use Rattle.tso_store.proofs.arrived.arrive_key.Goals as goal

pub run-init : goal.run-init
run-init c = record {
  way = starts c.args.checked.now.client c.args.own.now c.args.table.now c.args.parts.now c.args.key.now c.requires.kept c.requires.one_stop;
  known = c.requires.known;
}

pub next_key-requires-clause-kept : goal.next_key-requires-clause-kept
next_key-requires-clause-kept c = c.run.invariant.way.kept

pub next_key-requires-clause-small : goal.next_key-requires-clause-small
next_key-requires-clause-small c = c.run.invariant.way.grows.small c.requires.small

pub next_key-requires-clause-running : goal.next_key-requires-clause-running
next_key-requires-clause-running c = running_grows c.args.parts.now.histories c.run.parts.histories c.args.running.now c.run.invariant.way.grows.histories c.requires.running

pub run-smaller : goal.run-smaller
run-smaller c =
    let by : IsNextOf c.args.checked.now.client c.args.own.now c.args.table.now c.run.parts c.run.last c.next_key.new.parts c.in-Some.next.0 = rw c.in-Some.is at c.in_ok-next.ensures.next in
    costs_less c.args.checked.now.client c.args.checked.now.no_fault c.args.own.now c.args.table.now c.run.parts c.next_key.new.parts c.run.last (c.run.invariant.way.grows.small c.requires.small) c.next_key.ensures.grows c.args.parts.now c.args.key.now c.in-Some.next.0 c.run.invariant.way by

pub run-preserved : goal.run-preserved
run-preserved c =
    let by : IsNextOf c.args.checked.now.client c.args.own.now c.args.table.now c.run.parts c.run.last c.next_key.new.parts c.in-Some.next.0 = rw c.in-Some.is at c.in_ok-next.ensures.next in
    record {
      way = goes_on c.args.checked.now.client c.args.checked.now.no_fault c.args.own.now c.args.table.now c.run.parts c.next_key.new.parts c.run.last (c.run.invariant.way.grows.small c.requires.small) c.next_key.ensures.grows c.args.parts.now c.args.key.now c.in-Some.next.0 c.run.invariant.way by;
      known = c.next_key.ensures.known;
    }

pub returns-in-None-clause-stops : goal.returns-in-None-clause-stops
returns-in-None-clause-stops c =
    let stops : HasNoFree c.args.checked.now.client c.args.own.now c.args.table.now (state_at c.run.parts c.run.last) = rw c.in-None.is at c.in_ok-next.ensures.next in
    stops_on c.args.checked.now.client c.args.checked.now.no_fault c.args.own.now c.args.table.now c.run.parts c.next_key.new.parts c.run.last (c.run.invariant.way.grows.small c.requires.small) c.next_key.ensures.grows c.args.parts.now c.args.key.now c.run.invariant.way stops

pub returns-in-None-clause-grows : goal.returns-in-None-clause-grows
returns-in-None-clause-grows c = grows_on c.args.parts.now c.run.parts c.next_key.new.parts c.run.invariant.way.grows c.next_key.ensures.grows

pub returns-in_err-next-clause-grows : goal.returns-in_err-next-clause-grows
returns-in_err-next-clause-grows c = grows_on c.args.parts.now c.run.parts c.next_key.new.parts c.run.invariant.way.grows c.next_key.ensures.grows
