use Rattle.std.proofs.Common.{◌∙◌, ap, sym}
use Rattle.tso_state.proofs.ViewLemmas.{none_there}
use Rattle.tso_indep.specs.Reasons.{is_done}
use Rattle.tso_state.specs.declared.state.Thread.{Thread}
use Rattle.tso_indep.proofs.holding.is_done_in.Goals as goal

pub returns-in-None : goal.returns-in-None
returns-in-None g c =
    let s = g.S.Viewed.state c.args.state.now in
    c.is_done-in-None.ensures ∙ ap (λ (t : Thread). is_done c.args.checked.now.client s c.args.number t.core) (sym (none_there s.threads c.args.number _ (sym c.in-None.ensures)))
