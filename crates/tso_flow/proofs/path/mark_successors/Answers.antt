use Rattle.std.proofs.Common.{refl}
use Rattle.tso_flow.specs.Paths.{is_at, goes_on}
use Rattle.tso_flow.proofs.Marking.{either_only, either_old}
use Rattle.tso_flow.proofs.path.mark_successors.Goals as goal

pub returns-then-one-clause-only : goal.returns-then-one-clause-only
unfolding goes_on
returns-then-one-clause-only c =
    rw (← c.next_position.ensures, ← c.jump_target.ensures) (either_only (is_at c.next_position.result) (is_at c.jump_target.result) _ _ _ c.mark_some-one.ensures.only c.mark_some-other.ensures.only)

pub returns-else-one-clause-only : goal.returns-else-one-clause-only
unfolding goes_on
returns-else-one-clause-only c =
    rw (← c.next_position.ensures, ← c.jump_target.ensures) (either_only (is_at c.next_position.result) (is_at c.jump_target.result) _ _ _ c.mark_some-one.ensures.only c.mark_some-other.ensures.only)

pub returns-else-one-clause-old : goal.returns-else-one-clause-old
unfolding goes_on
returns-else-one-clause-old c =
    rw (← c.next_position.ensures, ← c.jump_target.ensures) (λ e. either_old (is_at c.next_position.result) (is_at c.jump_target.result) _ _ _ (c.if-one.ensures.old refl) (c.mark_some-other.ensures.old e))
