use Rattle.std.proofs.Common.{◌≡◌, ◌+◌, ◌*◌, ◌-◌, []}
use Rattle.tso_search.specs.Grounds.{HasRoom}
use Rattle.tso_search.specs.Searched.{IsHunting}
use Rattle.tso_search.proofs.narrowing.spread.Given as goal

abbrev pub invariant-states : goal.invariant-states
invariant-states l = record {
  client : l.store.client ≡ l.checked.client;
  hunting : IsHunting l.checked.client l.ground 4194304 l.store.states l.origins.items [];
  room : HasRoom l.ground l.store.kept (8 + 40 * l.number);
}

abbrev pub decreases-states : goal.decreases-states
decreases-states l = 65536 - l.number
