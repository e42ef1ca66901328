use Rattle.std.proofs.Common.{◌≡◌, ◌≤◌, ◌+◌, ◌*◌, ◌-◌, length}
use Rattle.tso_search.specs.Goodness.{AllGood}
use Rattle.tso_search.specs.Grounds.{HasRoom}
use Rattle.tso_search.specs.Searched.{AreDone, IsSearched}
use Rattle.tso_search.proofs.searching.search.Given as goal

abbrev pub invariant-states : goal.invariant-states
invariant-states g l = record {
  client : l.store.client ≡ l.checked.client;
  searched : IsSearched l.checked.client l.ground l.store.states l.origins.items l.number;
  good : AllGood l.checked.client l.store.states;
  done : AreDone l.checked.client l.ground l.store.states l.marks;
  few : length l.store.states ≤ l.limit;
  low : l.number ≤ length l.store.states;
  room : HasRoom l.ground l.store.kept (l.initial.store.kept + 40 * l.number);
}

abbrev pub decreases-states : goal.decreases-states
decreases-states g l = l.limit + 1 - l.number
