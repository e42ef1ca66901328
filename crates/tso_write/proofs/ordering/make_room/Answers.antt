use Rattle.std.proofs.Common.{◌∙◌}
use Rattle.tso_write.proofs.OrderingLemmas.{room_grouped, room_joined, room_long}
use Rattle.tso_write.proofs.ordering.make_room.Goals as goal

pub loop-count-preserved : goal.loop-count-preserved
loop-count-preserved c =
    let old = c.loop-count.groups in
    let is = c.in_ok-push.ensures.ok in
    record {
      room = room_long old _ _ c.loop-count._count is c.loop-count.invariant.room;
      same = room_joined old _ _ c.new.ensures is ∙ c.loop-count.invariant.same;
      each = λ rows first all. room_grouped rows first old _ _ c.new.ensures is (c.loop-count.invariant.each rows first all);
    }
