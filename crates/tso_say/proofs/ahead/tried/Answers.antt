use Rattle.std.proofs.Common.{Ok, ap, ◌∙◌}
use Rattle.tso_say.proofs.ahead.tried.Goals as goal

pub returns-else-branch-clause-is : goal.returns-else-branch-clause-is
returns-else-branch-clause-is c = c.is_step.ensures.no (c.in_ok-is_step.was ∙ ap (λ b. Ok b) c.if-branch.false)
