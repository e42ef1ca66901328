use Rattle.std.proofs.Common.{sym, ◌∙◌}
use Rattle.std.proofs.lemmas.Bool.{false≢true}
use Rattle.tso_keys.proofs.FoundLemmas.{found_or}
use Rattle.tso_keys.proofs.StateLemmas.{no_key, no_misfit}
use Rattle.tso_store.proofs.numbered.Store.find_view.Goals as goal

pub returns-then-not-view_fits_client : goal.returns-then-not-view_fits_client
returns-then-not-view_fits_client c =
    rw (← c.self.view_is) (no_misfit c.self.inside.checked.now.client c.self.inside.parts c.self.inside.keys c.args.view.now c.self.invariant.kept (λ fits. absurd (false≢true (sym c.if-not-view_fits_client.true ∙ c.view_fits_client.ensures.fits.1 fits))))

pub returns : goal.returns
returns c = rw (← c.self.view_is) (found_or c.self.inside.checked.now.client c.self.inside.parts c.self.inside.keys c.in_ok-key.key c.args.view.now c.find.result c.is_numbered-2.ensures.numbered c.is_numbered-3.ensures.numbered c.is_numbered.ensures.numbered c.self.invariant.small c.self.invariant.kept c.in_ok-key.ensures c.find.ensures)

pub returns-in_err-key : goal.returns-in_err-key
returns-in_err-key c = rw (c.from_residual.ensures, ← c.self.view_is) (no_key c.self.inside.checked.now.client c.self.inside.parts c.self.inside.keys c.args.view.now c.self.invariant.kept c.in_err-key.ensures)
