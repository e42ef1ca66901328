use Rattle.std.proofs.Common.{◌≡◌}
use Rattle.tso_parts.specs.Numbers.{Extends}
use Rattle.tso_regions.specs.Regions.{AreSound}
use Rattle.tso_regions.proofs.region.take_own.Given as goal

abbrev pub invariant-loop-number : goal.invariant-loop-number
invariant-loop-number g l = record {
  client : l.store.client ≡ l.initial.store.client;
  sound : AreSound l.store.client l.store.states;
  stays : Extends l.initial.store.states l.store.states;
}
