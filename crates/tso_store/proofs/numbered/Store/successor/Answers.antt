use Rattle.std.proofs.Common.{ap, ◌∙◌, sym}
use Rattle.tso_keys.specs.Keys.{states_at}
use Rattle.tso_parts.proofs.Outcomes.{on_err}
use Rattle.tso_store.proofs.Closing.{sheet_added, sheet_grows}
use Rattle.tso_keys.proofs.Procedures.{running_grows}
use Rattle.tso_keys.proofs.StateLemmas.{states_stay}
use Rattle.tso_store.proofs.Sheeted.{can_step, successor, no_step_successor}
use Rattle.tso_store.proofs.Performed.{step_has}
use Rattle.tso_store.proofs.numbered.Store.successor.Goals as goal

pub invariant_of-self : goal.invariant_of-self
invariant_of-self c = sheet_grows c.self.inside.checked.now.client c.self.inside.parts c.step_key.new.parts c.self.inside.keys c.self.inside.known c.step_key.new.known c.self.inside.running c.self.inside.running c.self.invariant c.step_key.ensures.grows c.step_key.ensures.known (running_grows c.self.inside.parts.histories c.step_key.new.parts.histories c.self.inside.running c.step_key.ensures.grows.histories c.self.invariant.running)

pub returns-in_err-next-clause-err : goal.returns-in_err-next-clause-err
returns-in_err-next-clause-err c = rw (← c.self.view_is) (on_err c.from_residual.result (states_stay c.self.inside.checked.now.client c.self.inside.parts c.step_key.new.parts c.self.inside.keys c.step_key.ensures.grows (c.step_key.ensures.grows.small c.self.invariant.small) c.self.invariant.kept))

pub returns-in_err-next-clause-some : goal.returns-in_err-next-clause-some
returns-in_err-next-clause-some c = rw (← c.self.view_is) (on_err c.from_residual.result (can_step c.self.inside.checked.now.client c.self.inside.parts c.self.inside.keys c.in-Some.key c.args.number c.args.actor (sym c.in-Some.ensures) c.in_err-next.ensures.err))

pub invariant_of-self-in_default-2 : goal.invariant_of-self-in_default-2
invariant_of-self-in_default-2 c = sheet_grows c.self.inside.checked.now.client c.self.inside.parts c.step_key.new.parts c.self.inside.keys c.self.inside.known c.step_key.new.known c.self.inside.running c.self.inside.running c.self.invariant c.step_key.ensures.grows c.step_key.ensures.known (running_grows c.self.inside.parts.histories c.step_key.new.parts.histories c.self.inside.running c.step_key.ensures.grows.histories c.self.invariant.running)

pub returns-in_default-2-clause-step : goal.returns-in_default-2-clause-step
returns-in_default-2-clause-step c = rw (← c.self.view_is) (no_step_successor c.self.inside.checked.now.client c.self.inside.parts c.step_key.new.parts c.self.inside.keys c.in-Some.key c.args.number c.args.actor c.step_key.ensures.grows (c.step_key.ensures.grows.small c.self.invariant.small) c.self.invariant.kept (sym c.in-Some.ensures) (rw c.in_default-2.is at c.in_ok-next.ensures.step))

pub learn_running-requires : goal.learn_running-requires
learn_running-requires c = running_grows c.self.inside.parts.histories c.step_key.new.parts.histories c.self.inside.running c.step_key.ensures.grows.histories c.self.invariant.running

pub invariant_of-self-in_err-learn_running : goal.invariant_of-self-in_err-learn_running
invariant_of-self-in_err-learn_running c = sheet_grows c.self.inside.checked.now.client c.self.inside.parts c.step_key.new.parts c.self.inside.keys c.self.inside.known c.step_key.new.known c.self.inside.running c.learn_running.new.running c.self.invariant c.step_key.ensures.grows c.step_key.ensures.known c.learn_running.ensures.known

pub returns-in_err-learn_running-clause-err : goal.returns-in_err-learn_running-clause-err
returns-in_err-learn_running-clause-err c = rw (← c.self.view_is) (on_err c.from_residual-in_err-learn_running.result (states_stay c.self.inside.checked.now.client c.self.inside.parts c.step_key.new.parts c.self.inside.keys c.step_key.ensures.grows (c.step_key.ensures.grows.small c.self.invariant.small) c.self.invariant.kept))

pub returns-in_err-learn_running-clause-some : goal.returns-in_err-learn_running-clause-some
returns-in_err-learn_running-clause-some c =
    let by = rw c.in-Some-2.is at c.in_ok-next.ensures.step in
    rw (← c.self.view_is) (on_err c.from_residual-in_err-learn_running.result (can_step c.self.inside.checked.now.client c.self.inside.parts c.self.inside.keys c.in-Some.key c.args.number c.args.actor (sym c.in-Some.ensures) (step_has c.self.inside.checked.now.client c.self.inside.parts c.in-Some.key c.args.actor c.step_key.new.parts c.in-Some-2.next by)))

pub invariant_of-self-in_err-result : goal.invariant_of-self-in_err-result
invariant_of-self-in_err-result c = rw c.in_err-result.ensures.err (sheet_grows c.self.inside.checked.now.client c.self.inside.parts c.step_key.new.parts c.self.inside.keys c.self.inside.known c.step_key.new.known c.self.inside.running c.learn_running.new.running c.self.invariant c.step_key.ensures.grows c.step_key.ensures.known c.learn_running.ensures.known)

pub returns-in_err-result-clause-err : goal.returns-in_err-result-clause-err
returns-in_err-result-clause-err c = rw (← c.self.view_is) (on_err c.from_residual-in_err-result.result (ap (states_at c.step_key.new.parts) c.in_err-result.ensures.err ∙ states_stay c.self.inside.checked.now.client c.self.inside.parts c.step_key.new.parts c.self.inside.keys c.step_key.ensures.grows (c.step_key.ensures.grows.small c.self.invariant.small) c.self.invariant.kept))

pub returns-in_err-result-clause-some : goal.returns-in_err-result-clause-some
returns-in_err-result-clause-some c =
    let by = rw c.in-Some-2.is at c.in_ok-next.ensures.step in
    rw (← c.self.view_is) (on_err c.from_residual-in_err-result.result (can_step c.self.inside.checked.now.client c.self.inside.parts c.self.inside.keys c.in-Some.key c.args.number c.args.actor (sym c.in-Some.ensures) (step_has c.self.inside.checked.now.client c.self.inside.parts c.in-Some.key c.args.actor c.step_key.new.parts c.in-Some-2.next by)))

pub invariant_of-self-2 : goal.invariant_of-self-2
invariant_of-self-2 c =
    let by = rw c.in-Some-2.is at c.in_ok-next.ensures.step in
    sheet_added c.self.inside.checked.now.client c.self.inside.parts c.step_key.new.parts c.self.inside.keys c.add.new.self c.self.inside.known c.step_key.new.known c.self.inside.running c.learn_running.new.running c.in-Some-2.next by.state c.in_ok-result.result.1 c.self.invariant c.step_key.ensures.grows c.step_key.ensures.known c.learn_running.ensures.known by.key by.fits c.in_ok-result.ensures.kept

pub returns-clause-step : goal.returns-clause-step
returns-clause-step c =
    let by = rw c.in-Some-2.is at c.in_ok-next.ensures.step in
    rw (← c.self.view_is) (successor c.self.inside.checked.now.client c.self.inside.parts c.step_key.new.parts c.self.inside.keys c.add.new.self c.in-Some.key c.in-Some-2.next c.args.number c.args.actor c.in_ok-result.result.0 c.in_ok-result.result.1 c.step_key.ensures.grows (c.step_key.ensures.grows.small c.self.invariant.small) c.self.invariant.kept (sym c.in-Some.ensures) by c.in_ok-result.ensures.kept c.in_ok-result.ensures.number)
