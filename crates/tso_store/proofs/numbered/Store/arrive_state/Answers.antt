use Rattle.std.proofs.Common.{ap, ◌∙◌, sym, subst}
use Rattle.tso_confluence.specs.Stops.{HasOneStop}
use Rattle.tso_keys.proofs.Procedures.{running_grows}
use Rattle.tso_keys.proofs.StateLemmas.{kept_of, key_state, states_stay}
use Rattle.tso_keys.specs.Keys.{states_at}
use Rattle.tso_parts.proofs.Outcomes.{on_err}
use Rattle.tso_store.proofs.Closing.{sheet_added, sheet_stays, sheet_walked, still_known}
use Rattle.tso_store.proofs.Movements.{grows_on}
use Rattle.tso_store.proofs.Stopping.{stop_added, stop_from}
use Rattle.tso_store.proofs.numbered.Store.arrive_state.Goals as goal

pub invariant_of-self : goal.invariant_of-self
invariant_of-self c = sheet_stays c.self.inside.checked.now.client c.self.inside.parts c.key_of.new.parts c.self.inside.keys c.self.inside.known c.self.inside.running c.self.invariant c.key_of.ensures.grows

pub returns-in_err-start-clause-err : goal.returns-in_err-start-clause-err
returns-in_err-start-clause-err c = rw (← c.self.view_is) (on_err c.from_residual.result (states_stay c.self.inside.checked.now.client c.self.inside.parts c.key_of.new.parts c.self.inside.keys c.key_of.ensures.grows (c.key_of.ensures.grows.small c.self.invariant.small) c.self.invariant.kept))

pub arrive_key-requires-clause-kept : goal.arrive_key-requires-clause-kept
arrive_key-requires-clause-kept c =
    let fits = c.fits_client.ensures.fits.0 (search (c.if-not-fits_client.false)) in
    kept_of c.self.inside.checked.now.client c.key_of.new.parts c.in_ok-start.start c.args.state.now (c.key_of.ensures.grows.small c.self.invariant.small) c.in_ok-start.ensures.key fits

pub arrive_key-requires-clause-one_stop : goal.arrive_key-requires-clause-one_stop
arrive_key-requires-clause-one_stop c =
    let one : HasOneStop c.self.inside.checked.now.client c.args.own.now c.args.table.now c.args.state.now = rw (← c.self.view_is) at c.requires.one_stop in
    subst (HasOneStop c.self.inside.checked.now.client c.args.own.now c.args.table.now) (sym (key_state c.key_of.new.parts c.in_ok-start.start c.args.state.now (c.key_of.ensures.grows.small c.self.invariant.small) c.in_ok-start.ensures.key)) one

pub arrive_key-requires-clause-small : goal.arrive_key-requires-clause-small
arrive_key-requires-clause-small c = c.key_of.ensures.grows.small c.self.invariant.small

pub arrive_key-requires-clause-known : goal.arrive_key-requires-clause-known
arrive_key-requires-clause-known c = still_known c.self.inside.checked.now.client c.self.inside.parts c.key_of.new.parts c.self.inside.known c.key_of.ensures.grows c.self.invariant.recalls

pub arrive_key-requires-clause-running : goal.arrive_key-requires-clause-running
arrive_key-requires-clause-running c = running_grows c.self.inside.parts.histories c.key_of.new.parts.histories c.self.inside.running c.key_of.ensures.grows.histories c.self.invariant.running

pub invariant_of-self-in_err-last : goal.invariant_of-self-in_err-last
invariant_of-self-in_err-last c =
    let grows = grows_on c.self.inside.parts c.key_of.new.parts c.arrive_key.new.parts c.key_of.ensures.grows c.arrive_key.ensures.grows in
    sheet_walked c.self.inside.checked.now.client c.self.inside.parts c.arrive_key.new.parts c.self.inside.keys c.self.inside.known c.arrive_key.new.known c.self.inside.running c.self.invariant grows c.arrive_key.ensures.known

pub returns-in_err-last-clause-err : goal.returns-in_err-last-clause-err
returns-in_err-last-clause-err c =
    let grows = grows_on c.self.inside.parts c.key_of.new.parts c.arrive_key.new.parts c.key_of.ensures.grows c.arrive_key.ensures.grows in
    rw (← c.self.view_is) (on_err c.from_residual-in_err-last.result (states_stay c.self.inside.checked.now.client c.self.inside.parts c.arrive_key.new.parts c.self.inside.keys grows (grows.small c.self.invariant.small) c.self.invariant.kept))

pub invariant_of-self-in_err-result : goal.invariant_of-self-in_err-result
invariant_of-self-in_err-result c =
    let grows = grows_on c.self.inside.parts c.key_of.new.parts c.arrive_key.new.parts c.key_of.ensures.grows c.arrive_key.ensures.grows in
    rw c.in_err-result.ensures.err (sheet_walked c.self.inside.checked.now.client c.self.inside.parts c.arrive_key.new.parts c.self.inside.keys c.self.inside.known c.arrive_key.new.known c.self.inside.running c.self.invariant grows c.arrive_key.ensures.known)

pub returns-in_err-result-clause-err : goal.returns-in_err-result-clause-err
returns-in_err-result-clause-err c =
    let grows = grows_on c.self.inside.parts c.key_of.new.parts c.arrive_key.new.parts c.key_of.ensures.grows c.arrive_key.ensures.grows in
    rw (← c.self.view_is) (on_err c.from_residual-in_err-result.result (ap (states_at c.arrive_key.new.parts) c.in_err-result.ensures.err ∙ states_stay c.self.inside.checked.now.client c.self.inside.parts c.arrive_key.new.parts c.self.inside.keys grows (grows.small c.self.invariant.small) c.self.invariant.kept))

pub invariant_of-self-2 : goal.invariant_of-self-2
invariant_of-self-2 c =
    let grows = grows_on c.self.inside.parts c.key_of.new.parts c.arrive_key.new.parts c.key_of.ensures.grows c.arrive_key.ensures.grows in
    let by = c.in_ok-last.ensures.stops in
    sheet_added c.self.inside.checked.now.client c.self.inside.parts c.arrive_key.new.parts c.self.inside.keys c.add.new.self c.self.inside.known c.arrive_key.new.known c.self.inside.running c.self.inside.running c.in_ok-last.last by.state c.in_ok-result.result.1 c.self.invariant grows c.arrive_key.ensures.known
    (running_grows c.self.inside.parts.histories c.arrive_key.new.parts.histories c.self.inside.running grows.histories c.self.invariant.running) by.key by.fits c.in_ok-result.ensures.kept

pub returns-clause-stops : goal.returns-clause-stops
returns-clause-stops c =
    let grows = grows_on c.self.inside.parts c.key_of.new.parts c.arrive_key.new.parts c.key_of.ensures.grows c.arrive_key.ensures.grows in
    let by = stop_from c.self.inside.checked.now.client c.args.own.now c.args.table.now c.key_of.new.parts c.arrive_key.new.parts c.in_ok-start.start c.in_ok-last.last c.args.state.now (c.key_of.ensures.grows.small c.self.invariant.small) c.in_ok-start.ensures.key c.in_ok-last.ensures.stops in
    rw (← c.self.view_is) (stop_added c.self.inside.checked.now.client c.args.own.now c.args.table.now c.self.inside.parts c.arrive_key.new.parts c.self.inside.keys c.add.new.self c.args.state.now c.in_ok-last.last c.in_ok-result.result.0 c.in_ok-result.result.1 grows (grows.small c.self.invariant.small) c.self.invariant.kept by c.in_ok-result.ensures.kept c.in_ok-result.ensures.number)
