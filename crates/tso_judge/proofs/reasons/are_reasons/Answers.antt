use Rattle.std.proofs.Common.{◌∙◌, arith, refl, sym}
use Rattle.std.proofs.lemmas.Bool.{false≢true}
use Rattle.tso_judge.proofs.ReasonLemmas.{all_hold, more_hold, one_holds}
use Rattle.tso_judge.proofs.reasons.are_reasons.Goals as goal

pub loop-position-init : goal.loop-position-init
loop-position-init g c = record { each = λ j reason lt apart at. absurd (omega (arith, lt)) }

pub returns-then-not-holds : goal.returns-then-not-holds
returns-then-not-holds g c =
    let other = c.other_at-other.ensures in (
      λ e. absurd (false≢true e),
      λ are. c.if-not-holds.ensures ∙ one_holds c.args.checked.now.client c.args.table.now (g.S.Viewed.state c.args.state.now) c.args.chosen.now c.args.actor c.args.given.now c.thread.result c.loop-position.position c.other_at-other.result _ c.thread.ensures other.position other.other other.near (omega arith) are,
    )

pub loop-position-preserved : goal.loop-position-preserved
loop-position-preserved g c =
    let other = c.other_at-other.ensures in
    more_hold c.args.checked.now.client c.args.table.now (g.S.Viewed.state c.args.state.now) c.args.chosen.now c.args.actor c.args.given.now c.thread.result c.loop-position.position c.other_at-other.result _ c.thread.ensures other.position other.other (omega arith) c.loop-position.invariant (sym c.if-not-holds.ensures)

pub returns : goal.returns
returns g c = (λ e. all_hold c.args.checked.now.client c.args.table.now (g.S.Viewed.state c.args.state.now) c.args.chosen.now c.args.actor c.args.given.now c.loop-position.position (c.if-given-thread_count.false ∙ c.thread_count.ensures) (omega arith) c.loop-position.invariant, λ are. refl)
