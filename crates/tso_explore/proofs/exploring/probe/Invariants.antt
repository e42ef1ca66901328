use Rattle.std.proofs.Common.{◌≡◌, ◌+◌, ◌*◌}
use Rattle.tso_parts.specs.Numbers.{Extends}
use Rattle.tso_search.specs.Grounds.{HasRoom}
use Rattle.tso_search.specs.Searched.{IsHunting}
use Rattle.tso_explore.proofs.exploring.probe.Given as goal

abbrev pub invariant-loop-probe : goal.invariant-loop-probe
invariant-loop-probe l = record {
  client : l.store.client ≡ l.checked.client;
  hunting : IsHunting l.checked.client l.ground l.limit l.store.states l.origins.items l.marks;
  stays : Extends l.initial.store.states l.store.states;
  room : HasRoom l.ground l.store.kept (l.initial.store.kept + 41943040 * l._probe);
}
