use Rattle.std.proofs.Common.{◌≡◌}
use Rattle.tso_search.specs.BySteps.{HasBegun}
use Rattle.tso_explore.proofs.merging.add_table.Given as goal

abbrev pub invariant-loop-place : goal.invariant-loop-place
invariant-loop-place l = record {
  client : l.store.client ≡ l.initial.store.client;
  begun : HasBegun l.checked.client l.store.states;
}
