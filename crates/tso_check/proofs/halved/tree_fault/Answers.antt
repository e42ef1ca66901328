use Rattle.std.proofs.Common.{◌∙◌, refl, sym}
use Rattle.std.proofs.lemmas.Bool.{false≢true}
use Rattle.tso_check.proofs.halved.tree_fault.Goals as goal
use Rattle.tso_check.specs.Verdicts.{no_initial, not_closed, not_ordered}

pub returns-then-not-branch : goal.returns-then-not-branch
returns-then-not-branch c = not_ordered (λ o. false≢true (sym c.if-not-branch.true ∙ c.in_ok-is_ordered.ensures.1 o))

pub returns-then-not-is_closed : goal.returns-then-not-is_closed
returns-then-not-is_closed c = not_closed (c.in_ok-is_ordered.ensures.0 c.if-not-branch.false) (λ d. false≢true (c.if-not-is_closed.ensures.1 d))

pub returns-then-not-branch-2 : goal.returns-then-not-branch-2
returns-then-not-branch-2 c =
    no_initial (c.in_ok-is_ordered.ensures.0 c.if-not-branch.false) (c.if-not-is_closed.ensures.0 refl) (λ h. false≢true (sym c.if-not-branch-2.true ∙ c.in_ok-has_initial.ensures.1 h))
