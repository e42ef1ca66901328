use Rattle.std.proofs.Common.{arith}
use Rattle.tso_pool.proofs.Tried.{none_tried, one_more, one_got, all_tried, reaches_set}
use Rattle.tso_pool.proofs.stealing.steal_from.Goals as goal
use Rattle.std.proofs.Common.{◌∙◌}

pub loop-at-init : goal.loop-at-init
loop-at-init g c = none_tried _

pub loop-at-preserved : goal.loop-at-preserved
loop-at-preserved g c =
    one_more _ _ _ _ c.steal.new.self c.loop-at.invariant (omega arith) c.in_default.ensures.same c.in_default.ensures.got.0 c.in_default.ensures.got.1

pub returns-in-Some : goal.returns-in-Some
returns-in-Some g c = record {
  same = reaches_set _ _ _ c.steal.new.self c.in-Some.ensures.same ∙ c.loop-at.invariant.same;
  got = one_got _ _ _ _ c.steal.new.self _ c.loop-at.invariant (omega arith) c.in-Some.ensures.got;
}

pub returns : goal.returns
returns g c = record {
  same = c.loop-at.invariant.same;
  got = all_tried _ _ _ c.loop-at.invariant (omega arith);
}
