use Rattle.std.proofs.Common.{sym, ◌∙◌}
use Rattle.std.proofs.lemmas.Bool.{false≢true}
use Rattle.tso_state.proofs.FitLemmas.{refuted}
use Rattle.tso_state.proofs.ListLemmas.{list_of, parts_of, prologue_of}
use Rattle.tso_state.proofs.well_formed.is_well_formed_given.Goals as goal

pub returns-then-not-fits : goal.returns-then-not-fits
returns-then-not-fits g c =
    let client = c.args.checked.now.client in
    let s = g.S.Viewed.state c.args.state.now in
    refuted (λ w. false≢true (sym c.if-not-fits.true ∙ c.requires.1 (parts_of client s w)))

pub returns : goal.returns
returns g c =
    let client = c.args.checked.now.client in
    let s = g.S.Viewed.state c.args.state.now in
    let fit = c.requires.0 c.if-not-fits.false in
    (λ h. list_of client s fit.lengths fit.history fit.threads (c.prologue_fits.ensures.0 h), λ w. c.prologue_fits.ensures.1 (prologue_of client s w))
