use Rattle.std.proofs.Common.{sym, ◌∙◌}
use Rattle.std.proofs.lemmas.Bool.{false≢true}
use Rattle.tso_keys.proofs.FoundLemmas.{found_or}
use Rattle.tso_keys.proofs.StateLemmas.{no_key, no_misfit}
use Rattle.tso_store.proofs.numbered.Store.find.Goals as goal

pub returns-then-not-fits_client : goal.returns-then-not-fits_client
returns-then-not-fits_client c =
    rw (← c.self.view_is) (no_misfit c.self.inside.checked.now.client c.self.inside.parts c.self.inside.keys c.args.state.now c.self.invariant.kept (λ fits. absurd (false≢true (sym c.if-not-fits_client.true ∙ c.fits_client.ensures.fits.1 fits))))

pub returns-in-Some : goal.returns-in-Some
returns-in-Some c = rw (← c.self.view_is) (found_or c.self.inside.checked.now.client c.self.inside.parts c.self.inside.keys c.in-Some.key c.args.state.now c.find.result c.is_numbered-2.ensures.numbered c.is_numbered-3.ensures.numbered c.is_numbered.ensures.numbered c.self.invariant.small c.self.invariant.kept c.in-Some.ensures c.find.ensures)

pub returns-in-None : goal.returns-in-None
returns-in-None c = rw (← c.self.view_is) (no_key c.self.inside.checked.now.client c.self.inside.parts c.self.inside.keys c.args.state.now c.self.invariant.kept c.in-None.ensures)
