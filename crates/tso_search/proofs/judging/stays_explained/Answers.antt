use Rattle.std.proofs.Common.{◌∙◌, sym, subst}
use Rattle.tso_search.proofs.GoodLemmas.{drain_stays, running_stays}
use Rattle.tso_search.proofs.judging.stays_explained.Goals as goal
use Rattle.tso_search.specs.Goodness.{StaysExplained}
use Rattle.tso_state.specs.declared.actor.Actor.{Actor}

pub returns-in-Exec : goal.returns-in-Exec
returns-in-Exec g c is client =
    subst (λ (a : Actor). StaysExplained client a (g.S.Viewed.state c.args.after.now)) (sym c.in-Exec.is)
    (running_stays client c.in-Exec.number (g.S.Viewed.state c.args.after.now) (sym c.is_running.ensures ∙ is))

pub returns-in-Drain : goal.returns-in-Drain
returns-in-Drain g c is client =
    subst (λ (a : Actor). StaysExplained client a (g.S.Viewed.state c.args.after.now)) (sym c.in-Drain.is) (drain_stays client c.in-Drain.field-0 (g.S.Viewed.state c.args.after.now))
