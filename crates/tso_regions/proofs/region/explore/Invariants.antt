use Rattle.std.proofs.Common.{◌≡◌}
use Rattle.tso_regions.specs.Regions.{AreSound}
use Rattle.tso_search.specs.BySteps.{AreDone}
use Rattle.tso_regions.proofs.region.explore.Given as goal

abbrev pub invariant-loop-turn : goal.invariant-loop-turn
invariant-loop-turn l = record {
  client : l.store.client ≡ l.checked.client;
  sound : AreSound l.checked.client l.store.states;
  done : AreDone l.checked.client l.table l.store.states l.marks;
}
