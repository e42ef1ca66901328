use Rattle.std.proofs.Common.{List, ap, map, subst, ◌∙◌, sym}
use Rattle.std.proofs.lemmas.Result.{err_from_is_err_and}
use Rattle.tso_prog.specs.declared.named.Target.{Target}
use Rattle.tso_prog.specs.Content.{target_view, step_view}
use Rattle.tso_prog.specs.Program.{Fails}
use Rattle.tso_prog.specs.Finish.{labelled, labelled_step}
use Rattle.tso_prog.proofs.Labels.{step_at, step_more, step_stop, steps_end}
use Rattle.tso_prog.proofs.finish.with_positions.Goals as goal

pub returns-in_err-with_position : goal.returns-in_err-with_position
returns-in_err-with_position c =
    let p = err_from_is_err_and c.from_residual.result c.from_residual.ensures.1 in
    let steps = c.deref-step-items.result.now in
    let labels = map target_view c.args.body.now.labels in
    rw (p.1, p.2, ← c.deref-step-items.ensures.value) (step_stop c.in_err-with_position.field-0.0 labels c.loop-step.steps.items steps c.loop-step.step-index (labelled labels (map step_view steps)) c.loop-step-test.true (subst (λ (ls : List Target). Fails c.in_err-with_position.field-0.0 (labelled_step (map target_view ls) (step_view (step_at steps c.loop-step.step-index)))) c.as_slice.ensures c.in_err-with_position.ensures) c.loop-step.invariant)

pub loop-step-preserved : goal.loop-step-preserved
loop-step-preserved c =
    let steps = c.deref-step-items.result.now in
    let labels = map target_view c.args.body.now.labels in
    rw c.in_ok-push.ensures.items (step_more labels c.loop-step.steps.items steps c.loop-step.step-index c.in_ok-with_position.field-0 (labelled labels (map step_view steps)) c.loop-step-test.true (ap (λ (ls : List Target). labelled_step (map target_view ls) (step_view (step_at steps c.loop-step.step-index))) (sym c.as_slice.ensures) ∙ c.in_ok-with_position.ensures) c.loop-step.invariant)

pub returns : goal.returns
returns c =
    let steps = c.deref-step-items.result.now in
    let labels = map target_view c.args.body.now.labels in
    rw (← c.deref-step-items.ensures.value) (steps_end labels c.loop-step.steps.items steps c.loop-step.step-index (labelled labels (map step_view steps)) c.loop-step-test.false c.loop-step.invariant)
