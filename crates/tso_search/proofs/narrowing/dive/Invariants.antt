use Rattle.std.proofs.Common.{◌≡◌, ◌+◌, ◌*◌, []}
use Rattle.tso_search.specs.Grounds.{HasRoom}
use Rattle.tso_search.specs.Searched.{IsHunting}
use Rattle.tso_search.proofs.narrowing.dive.Given as goal

abbrev pub invariant-looks : goal.invariant-looks
invariant-looks l = record {
  client : l.store.client ≡ l.checked.client;
  hunting : IsHunting l.checked.client l.ground 4194304 l.store.states l.origins.items [];
  room : HasRoom l.ground (l.store.kept + 40 * l.left) (8 + 40 * 65536);
}

abbrev pub decreases-looks : goal.decreases-looks
decreases-looks l = l.left
