use Rattle.std.proofs.Common.{◌∙◌}
use Rattle.tso_machine.specs.Soundness.{bounds_in}
use Rattle.tso_state.proofs.FitLemmas.{are_counts}
use Rattle.tso_state.proofs.well_formed.is_frame_of.Goals as goal

pub returns-then-frame-steps : goal.returns-then-frame-steps
returns-then-frame-steps c =
    let steps = c.as_slice-steps.ensures ∙ c.procedure_of.ensures.steps in
    let position = rw steps at c.if-frame-steps.true in
    let e = rw (c.as_slice.ensures, steps) at c.are_within.ensures in
    let (there, back) = are_counts c.args.frame.now.taken (bounds_in c.args.client.now c.args.procedure) in
    rw e (λ h. (let k = there h in record { position = position; counts = k.width; bounds = k.each }), λ f. back (record { width = f.counts; each = f.bounds }))
