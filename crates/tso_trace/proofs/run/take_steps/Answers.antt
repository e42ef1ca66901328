use Rattle.std.proofs.Common.{ap, Err}
use Rattle.tso_trace.proofs.RunLemmas.{first_non_step, leads_more}
use Rattle.tso_trace.proofs.run.take_steps.Goals as goal

pub returns-in-Err-NotAStep-clause-refused : goal.returns-in-Err-NotAStep-clause-refused
returns-in-Err-NotAStep-clause-refused c =
    first_non_step c.args.checked.now.client c.args.labels.now c.loop-position.position _ c.loop-position-test.true _ c.loop-position.invariant (c.in-Err-NotAStep.ensures.refused (ap Err c.in-Err-NotAStep.field-0-is))

pub loop-position-preserved : goal.loop-position-preserved
loop-position-preserved c =
    leads_more c.args.checked.now.client c.args.labels.now c.loop-position.position _ c.loop-position-test.true _ _ c.loop-position.invariant c.in-Ok.ensures.step
