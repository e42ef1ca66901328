use Rattle.std.proofs.Common.{◌∙◌, ap, arith, sym}
use Rattle.tso_choose.proofs.ChoosingLemmas.{all_kinds, lone_at, next_survey, no_lone}
use Rattle.tso_indep.specs.Reasons.{kind_in}
use Rattle.tso_choose.proofs.choosing.survey.Goals as goal

pub returns-then-is_lone-clause-lone : goal.returns-then-is_lone-clause-lone
returns-then-is_lone-clause-lone g c =
    let client = c.args.checked.now.client in
    let s = g.S.Viewed.state c.args.state.now in
    lone_at client s c.loop-number.number c.loop-number.kinds c.kind-kind.result c.loop-number.invariant
    (omega (arith, c.loop-number-test.true, c.thread_count-number-end.ensures, c.requires.few)) (c.kind-kind.ensures ∙ ap (kind_in client s) c.actor_at.ensures) (sym c.if-is_lone.ensures)

pub loop-number-preserved : goal.loop-number-preserved
loop-number-preserved g c =
    let client = c.args.checked.now.client in
    let s = g.S.Viewed.state c.args.state.now in
    next_survey client s c.loop-number.number c.loop-number.kinds c.kind-kind.result c.loop-number.invariant
    (omega (arith, c.loop-number-test.true, c.thread_count-number-end.ensures, c.requires.few)) (c.kind-kind.ensures ∙ ap (kind_in client s) c.actor_at.ensures) (sym c.if-is_lone.ensures)

pub returns-clause-kinds : goal.returns-clause-kinds
returns-clause-kinds g c =
    all_kinds c.args.checked.now.client (g.S.Viewed.state c.args.state.now) c.loop-number.number c.loop-number.kinds c.loop-number.invariant
    (omega (arith, c.loop-number-test.false, c.thread_count-number-end.ensures))

pub returns-clause-none : goal.returns-clause-none
returns-clause-none g c =
    no_lone c.args.checked.now.client (g.S.Viewed.state c.args.state.now) c.loop-number.number c.loop-number.kinds c.loop-number.invariant
    (omega (arith, c.loop-number-test.false, c.thread_count-number-end.ensures))
