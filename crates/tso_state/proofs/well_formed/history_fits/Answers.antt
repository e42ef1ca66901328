use Rattle.std.proofs.Common.{subst, sym}
use Rattle.tso_state.specs.Fitting.{SeenFits}
use Rattle.tso_state.proofs.well_formed.history_fits.Goals as goal

pub returns-then-lists_fit : goal.returns-then-lists_fit
returns-then-lists_fit c =
    let h = c.args.history.now in (
      λ seen. record { lists = c.lists_fit.ensures.0 c.if-lists_fit.true; seen = subst (λ n. SeenFits h n) c.width_of-width.ensures (c.seen_fits.ensures.0 seen) },
      λ fits. c.seen_fits.ensures.1 (subst (λ n. SeenFits h n) (sym c.width_of-width.ensures) fits.seen),
    )
