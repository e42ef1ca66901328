use Rattle.std.proofs.Common.{◌∙◌, arith}
use Rattle.tso_search.proofs.SearchLemmas.{room_both}
use Rattle.tso_search.proofs.narrowing.dive.Goals as goal

pub looks-preserved : goal.looks-preserved
looks-preserved c = record {
  client = c.go_on.ensures.client ∙ c.looks.invariant.client;
  hunting = c.in_ok-go_on.ensures.hunting;
  room = room_both c.args.ground.now _ _ _ _ _ _ c.go_on.ensures.room c.looks.invariant.room (λ a b. let d = c.looks-test.true in omega (arith, a, b, d));
}
