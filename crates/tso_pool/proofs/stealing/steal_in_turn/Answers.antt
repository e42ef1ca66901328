use Rattle.tso_pool.proofs.Tried.{got_after, got_before, none_got}
use Rattle.tso_pool.proofs.stealing.steal_in_turn.Goals as goal

pub returns-in-Some-clause-got : goal.returns-in-Some-clause-got
returns-in-Some-clause-got g c =
    rw c.split_at_mut-before.ensures.value (got_after _ _ c.steal_from.new.victims _ _ _ c.split_at_mut-before.ensures.front_len c.in-Some.ensures.got)

pub returns-in_err-stolen-clause-got : goal.returns-in_err-stolen-clause-got
returns-in_err-stolen-clause-got g c =
    rw (c.from_residual.ensures, c.split_at_mut-before.ensures.value) (none_got _ c.steal_from-2.new.victims _ c.steal_from.new.victims c.steal_from-2.auto.victims c.in_err-stolen.ensures.got c.in_default.ensures.got)

pub returns-clause-got : goal.returns-clause-got
returns-clause-got g c =
    rw c.split_at_mut-before.ensures.value (got_before _ c.steal_from-2.new.victims _ c.steal_from.new.victims _ _ c.in_default.ensures.got.0 c.in_ok-stolen.ensures.got)
