use Rattle.std.proofs.Common.{◌≡◌}
use Rattle.tso_search.specs.BySteps.{HasBegun}
use Rattle.tso_explore.proofs.merging.add_tables.Given as goal

abbrev pub invariant-loop-table : goal.invariant-loop-table
invariant-loop-table l = record {
  client : l.store.client ≡ l.initial.store.client;
  begun : HasBegun l.checked.client l.store.states;
}
