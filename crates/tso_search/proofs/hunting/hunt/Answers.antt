use Rattle.std.proofs.Common.{◌∙◌, arith}
use Rattle.tso_search.proofs.SearchLemmas.{room_both, stays_stays}
use Rattle.tso_search.proofs.hunting.hunt.Goals as goal

pub looks-preserved : goal.looks-preserved
looks-preserved c = record {
  client = c.leave.ensures.client ∙ c.looks.invariant.client;
  hunting = c.in_ok-leave.ensures.hunting;
  stays = stays_stays _ _ _ c.looks.invariant.stays c.in_ok-leave.ensures.stays;
  room = room_both c.args.ground.now _ _ _ _ _ _ c.leave.ensures.room c.looks.invariant.room (λ a b. let d = c.looks-test.true in omega (arith, a, b, d));
}
