use Rattle.std.proofs.Common.{◌∙◌, sym}
use Rattle.tso_state.proofs.FitLemmas.{stage_last}
use Rattle.tso_state.proofs.well_formed.stage_of.Goals as goal

pub returns-in-Some : goal.returns-in-Some
returns-in-Some c = c.stage_of_call.ensures ∙ sym (stage_last c.args.calls.now c.in-Some.field-0-1.now c.in-Some.last.now c.in-Some.ensures.cases.0)
