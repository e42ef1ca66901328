use Rattle.std.proofs.Common.{ap, arith, ◌∙◌}
use Rattle.tso_keys.specs.Keys.{states_at}
use Rattle.tso_parts.proofs.Outcomes.{on_err}
use Rattle.tso_store.proofs.Closing.{sheet_stays, sheet_with}
use Rattle.tso_keys.proofs.StateLemmas.{kept_stay, no_key, no_misfit, no_state, states_stay}
use Rattle.tso_store.proofs.Sheeted.{added}
use Rattle.tso_store.proofs.numbered.Store.add.Goals as goal

pub invariant_of-self : goal.invariant_of-self
invariant_of-self c = sheet_stays c.self.inside.checked.now.client c.self.inside.parts c.key_of.new.parts c.self.inside.keys c.self.inside.known c.self.inside.running c.self.invariant c.key_of.ensures.grows

pub returns-in_err-key-clause-err : goal.returns-in_err-key-clause-err
returns-in_err-key-clause-err c = rw (← c.self.view_is) (on_err c.from_residual.result (states_stay c.self.inside.checked.now.client c.self.inside.parts c.key_of.new.parts c.self.inside.keys c.key_of.ensures.grows (c.key_of.ensures.grows.small c.self.invariant.small) c.self.invariant.kept))

pub invariant_of-self-in_err-result : goal.invariant_of-self-in_err-result
invariant_of-self-in_err-result c = rw c.in_err-result.ensures.err (sheet_stays c.self.inside.checked.now.client c.self.inside.parts c.key_of.new.parts c.self.inside.keys c.self.inside.known c.self.inside.running c.self.invariant c.key_of.ensures.grows)

pub returns-in_err-result-clause-err : goal.returns-in_err-result-clause-err
returns-in_err-result-clause-err c = rw (← c.self.view_is) (on_err c.from_residual-in_err-result.result (ap (states_at c.key_of.new.parts) c.in_err-result.ensures.err ∙ states_stay c.self.inside.checked.now.client c.self.inside.parts c.key_of.new.parts c.self.inside.keys c.key_of.ensures.grows (c.key_of.ensures.grows.small c.self.invariant.small) c.self.invariant.kept))

pub invariant_of-self-2 : goal.invariant_of-self-2
invariant_of-self-2 c =
    let fits = c.fits_client.ensures.fits.0 (search (c.if-not-fits_client.false)) in
    sheet_with c.self.inside.checked.now.client c.self.inside.parts c.key_of.new.parts c.self.inside.keys c.add.new.self c.self.inside.known c.self.inside.running c.in_ok-key.key c.args.state.now c.in_ok-result.result.1 c.self.invariant c.key_of.ensures.grows c.in_ok-key.ensures.key fits c.in_ok-result.ensures.kept

pub returns-clause-added : goal.returns-clause-added
returns-clause-added c = rw (← c.self.view_is) (added c.self.inside.checked.now.client c.self.inside.parts c.key_of.new.parts c.self.inside.keys c.add.new.self c.in_ok-key.key c.args.state.now c.in_ok-result.result.0 c.in_ok-result.result.1 c.key_of.ensures.grows (c.key_of.ensures.grows.small c.self.invariant.small) c.self.invariant.kept c.in_ok-key.ensures.key c.in_ok-result.ensures.kept c.in_ok-result.ensures.number)

pub returns-then-not-fits_client-clause-absent : goal.returns-then-not-fits_client-clause-absent
returns-then-not-fits_client-clause-absent c =
    rw (← c.self.view_is) (no_misfit c.self.inside.checked.now.client c.self.inside.parts c.self.inside.keys c.args.state.now c.self.invariant.kept
    (λ f. let fits = c.fits_client.ensures.fits.1 f in grind (arith, fits, c.if-not-fits_client.true)))

pub returns-in_err-key-clause-absent : goal.returns-in_err-key-clause-absent
returns-in_err-key-clause-absent c = rw (← c.self.view_is) (on_err c.from_residual.result (no_key c.self.inside.checked.now.client c.self.inside.parts c.self.inside.keys c.args.state.now c.self.invariant.kept c.in_err-key.ensures.absent))

pub returns-in_err-result-clause-absent : goal.returns-in_err-result-clause-absent
returns-in_err-result-clause-absent c =
    let client = c.self.inside.checked.now.client in
    let old = c.self.inside.parts in
    let new = c.key_of.new.parts in
    let keys = c.self.inside.keys in
    let small = c.key_of.ensures.grows.small c.self.invariant.small in
    let still = kept_stay client old new keys c.key_of.ensures.grows small c.self.invariant.kept in
    let none = no_state client new keys c.in_ok-key.key c.args.state.now c.is_numbered-2.ensures.numbered c.is_numbered-3.ensures.numbered c.is_numbered.ensures.numbered still c.in_ok-key.ensures.key c.in_err-result.ensures.absent in
    rw (← c.self.view_is) (on_err c.from_residual-in_err-result.result (rw (states_stay client old new keys c.key_of.ensures.grows small c.self.invariant.kept) at none))
