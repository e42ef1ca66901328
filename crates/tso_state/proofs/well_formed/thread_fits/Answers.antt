use Rattle.std.proofs.Common.{◌↔◌, IsTrue, subst}
use Rattle.tso_state.proofs.FitLemmas.{stage_fits}
use Rattle.tso_state.specs.Stages.{ThreadAtStage}
use Rattle.tso_state.specs.declared.stage.Stage.{Stage}
use Rattle.tso_state.proofs.well_formed.thread_fits.Goals as goal

pub returns : goal.returns
returns c =
    let e = stage_fits c.args.client.now c.args.thread.now c.args.calls.now in
    let (one, two) = subst (λ (x : Stage). IsTrue c.at_stage_among.result ↔ ThreadAtStage c.args.client.now c.args.thread.now x) c.stage_of.ensures c.at_stage_among.ensures in
    (λ h. e.0 (one h), λ h. two (e.1 h))
