use Rattle.std.proofs.Common.{◌∙◌, arith}
use Rattle.tso_search.proofs.SearchLemmas.{room_both, stays_stays}
use Rattle.tso_explore.proofs.exploring.probe.Goals as goal

pub loop-probe-preserved : goal.loop-probe-preserved
loop-probe-preserved c = record {
  client = c.hunt.ensures.client ∙ c.loop-probe.invariant.client;
  hunting = c.in_ok-hunt.ensures.hunting;
  stays = stays_stays _ _ _ c.loop-probe.invariant.stays c.in_ok-hunt.ensures.stays;
  room = room_both c.args.ground.now _ _ _ _ _ _ c.hunt.ensures.room c.loop-probe.invariant.room (λ a b. omega (arith, a, b));
}
