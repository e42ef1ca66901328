use Rattle.std.proofs.Common.{◌≡◌, map, drop}
use Rattle.tso_prog.specs.Content.{target_view, step_view}
use Rattle.tso_prog.specs.Finish.{labelled}
use Rattle.tso_prog.proofs.Labels.{with_front}
use Rattle.tso_prog.proofs.finish.with_positions.Given as goal

abbrev pub invariant-loop-step : goal.invariant-loop-step
invariant-loop-step l =
    with_front l.steps.items (labelled (map target_view l.body.labels) (map step_view (drop l.step-index l.step-items))) ≡ labelled (map target_view l.body.labels) (map step_view l.step-items)
