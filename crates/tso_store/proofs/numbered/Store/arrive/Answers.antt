use Rattle.std.proofs.Common.{ap, ◌∙◌, sym}
use Rattle.tso_keys.specs.Keys.{state_at, states_at}
use Rattle.tso_parts.proofs.Outcomes.{on_err}
use Rattle.tso_store.proofs.Closing.{sheet_added, sheet_grows}
use Rattle.tso_keys.proofs.Procedures.{running_grows}
use Rattle.tso_keys.proofs.StateLemmas.{state_got, states_stay}
use Rattle.tso_store.specs.Arriving.{HasOneStopAt}
use Rattle.tso_store.proofs.Stopping.{arrival, is_there, no_move_arrival}
use Rattle.tso_store.proofs.numbered.Store.arrive.Goals as goal

pub arrival_key-requires-clause-one_stop : goal.arrival_key-requires-clause-one_stop
arrival_key-requires-clause-one_stop c =
    let one : HasOneStopAt c.self.inside.checked.now.client c.args.own.now c.args.table.now (states_at c.self.inside.parts c.self.inside.keys) c.args.number = rw (← c.self.view_is) at c.requires.one_stop in
    one (state_at c.self.inside.parts c.in-Some.from) (state_got c.self.inside.parts c.self.inside.keys c.args.number c.in-Some.from (sym c.in-Some.ensures))

pub invariant_of-self : goal.invariant_of-self
invariant_of-self c = sheet_grows c.self.inside.checked.now.client c.self.inside.parts c.arrival_key.new.parts c.self.inside.keys c.self.inside.known c.arrival_key.new.known c.self.inside.running c.self.inside.running c.self.invariant c.arrival_key.ensures.grows c.arrival_key.ensures.known (running_grows c.self.inside.parts.histories c.arrival_key.new.parts.histories c.self.inside.running c.arrival_key.ensures.grows.histories c.self.invariant.running)

pub returns-in_err-stop-clause-err : goal.returns-in_err-stop-clause-err
returns-in_err-stop-clause-err c = rw (← c.self.view_is) (on_err c.from_residual.result (states_stay c.self.inside.checked.now.client c.self.inside.parts c.arrival_key.new.parts c.self.inside.keys c.arrival_key.ensures.grows (c.arrival_key.ensures.grows.small c.self.invariant.small) c.self.invariant.kept))

pub invariant_of-self-in_default-2 : goal.invariant_of-self-in_default-2
invariant_of-self-in_default-2 c = sheet_grows c.self.inside.checked.now.client c.self.inside.parts c.arrival_key.new.parts c.self.inside.keys c.self.inside.known c.arrival_key.new.known c.self.inside.running c.self.inside.running c.self.invariant c.arrival_key.ensures.grows c.arrival_key.ensures.known (running_grows c.self.inside.parts.histories c.arrival_key.new.parts.histories c.self.inside.running c.arrival_key.ensures.grows.histories c.self.invariant.running)

pub returns-in_default-2-clause-arrival : goal.returns-in_default-2-clause-arrival
returns-in_default-2-clause-arrival c = rw (← c.self.view_is) (no_move_arrival c.self.inside.checked.now.client c.args.own.now c.args.table.now c.self.inside.parts c.arrival_key.new.parts c.self.inside.keys c.in-Some.from c.args.number c.args.actor c.arrival_key.ensures.grows (c.arrival_key.ensures.grows.small c.self.invariant.small) c.self.invariant.kept (sym c.in-Some.ensures) (rw c.in_default-2.is at c.in_ok-stop.ensures.arrival))

pub learn_running-requires : goal.learn_running-requires
learn_running-requires c = running_grows c.self.inside.parts.histories c.arrival_key.new.parts.histories c.self.inside.running c.arrival_key.ensures.grows.histories c.self.invariant.running

pub invariant_of-self-in_err-learn_running : goal.invariant_of-self-in_err-learn_running
invariant_of-self-in_err-learn_running c = sheet_grows c.self.inside.checked.now.client c.self.inside.parts c.arrival_key.new.parts c.self.inside.keys c.self.inside.known c.arrival_key.new.known c.self.inside.running c.learn_running.new.running c.self.invariant c.arrival_key.ensures.grows c.arrival_key.ensures.known c.learn_running.ensures.known

pub returns-in_err-learn_running-clause-err : goal.returns-in_err-learn_running-clause-err
returns-in_err-learn_running-clause-err c = rw (← c.self.view_is) (on_err c.from_residual-in_err-learn_running.result (states_stay c.self.inside.checked.now.client c.self.inside.parts c.arrival_key.new.parts c.self.inside.keys c.arrival_key.ensures.grows (c.arrival_key.ensures.grows.small c.self.invariant.small) c.self.invariant.kept))

pub invariant_of-self-in_err-result : goal.invariant_of-self-in_err-result
invariant_of-self-in_err-result c = rw c.in_err-result.ensures.err (sheet_grows c.self.inside.checked.now.client c.self.inside.parts c.arrival_key.new.parts c.self.inside.keys c.self.inside.known c.arrival_key.new.known c.self.inside.running c.learn_running.new.running c.self.invariant c.arrival_key.ensures.grows c.arrival_key.ensures.known c.learn_running.ensures.known)

pub returns-in_err-result-clause-err : goal.returns-in_err-result-clause-err
returns-in_err-result-clause-err c = rw (← c.self.view_is) (on_err c.from_residual-in_err-result.result (ap (states_at c.arrival_key.new.parts) c.in_err-result.ensures.err ∙ states_stay c.self.inside.checked.now.client c.self.inside.parts c.arrival_key.new.parts c.self.inside.keys c.arrival_key.ensures.grows (c.arrival_key.ensures.grows.small c.self.invariant.small) c.self.invariant.kept))

pub invariant_of-self-2 : goal.invariant_of-self-2
invariant_of-self-2 c =
    let by = rw c.in-Some-2.is at c.in_ok-stop.ensures.arrival in
    sheet_added c.self.inside.checked.now.client c.self.inside.parts c.arrival_key.new.parts c.self.inside.keys c.add.new.self c.self.inside.known c.arrival_key.new.known c.self.inside.running c.learn_running.new.running c.in-Some-2.stop by.stops.state c.in_ok-result.result.1 c.self.invariant c.arrival_key.ensures.grows c.arrival_key.ensures.known c.learn_running.ensures.known by.stops.key by.stops.fits c.in_ok-result.ensures.kept

pub returns-clause-arrival : goal.returns-clause-arrival
returns-clause-arrival c =
    let by = rw c.in-Some-2.is at c.in_ok-stop.ensures.arrival in
    rw (← c.self.view_is) (arrival c.self.inside.checked.now.client c.args.own.now c.args.table.now c.self.inside.parts c.arrival_key.new.parts c.self.inside.keys c.add.new.self c.in-Some.from c.in-Some-2.stop c.args.number c.args.actor c.in_ok-result.result.0 c.in_ok-result.result.1 c.arrival_key.ensures.grows (c.arrival_key.ensures.grows.small c.self.invariant.small) c.self.invariant.kept (sym c.in-Some.ensures) by c.in_ok-result.ensures.kept c.in_ok-result.ensures.number)

pub returns-in_err-stop-clause-there : goal.returns-in_err-stop-clause-there
returns-in_err-stop-clause-there c = rw (← c.self.view_is) (on_err c.from_residual.result (is_there c.self.inside.parts c.self.inside.keys c.args.number c.in-Some.from (sym c.in-Some.ensures)))

pub returns-in_err-learn_running-clause-there : goal.returns-in_err-learn_running-clause-there
returns-in_err-learn_running-clause-there c = rw (← c.self.view_is) (on_err c.from_residual-in_err-learn_running.result (is_there c.self.inside.parts c.self.inside.keys c.args.number c.in-Some.from (sym c.in-Some.ensures)))

pub returns-in_err-result-clause-there : goal.returns-in_err-result-clause-there
returns-in_err-result-clause-there c = rw (← c.self.view_is) (on_err c.from_residual-in_err-result.result (is_there c.self.inside.parts c.self.inside.keys c.args.number c.in-Some.from (sym c.in-Some.ensures)))
