use Rattle.std.proofs.Common.{Err, ap, ◌∙◌}
use Rattle.tso_say.proofs.ahead.is_step.Goals as goal

pub returns-in-Err-NotAStep-clause-no : goal.returns-in-Err-NotAStep-clause-no
returns-in-Err-NotAStep-clause-no c = λ said. c.apply.ensures.refused (c.in-Err-NotAStep.is ∙ ap (λ e. Err e) c.in-Err-NotAStep.field-0-is)
