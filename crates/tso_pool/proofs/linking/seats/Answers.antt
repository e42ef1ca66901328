use Rattle.std.proofs.Common.{arith}
use Rattle.tso_pool.proofs.Links.{none_linked, none_empty, more_empty}
use Rattle.tso_pool.proofs.linking.seats.Goals as goal

pub loop-number-init : goal.loop-number-init
loop-number-init g c = record {
  count = c.new-seats.ensures.len;
  linked = none_linked c.new-seats.result.items c.new-seats.ensures.items;
  empty = none_empty c.new-seats.result.items c.new-seats.ensures.items;
}

pub loop-number-preserved : goal.loop-number-preserved
loop-number-preserved g c = record {
  count = omega (arith, c.in_ok-add_seat.ensures.count);
  linked = c.in_ok-add_seat.ensures.linked;
  empty = more_empty _ _ c.loop-number.invariant.empty c.in_ok-add_seat.ensures.tallies;
}
