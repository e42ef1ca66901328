use Rattle.std.proofs.Common.{◌≡◌, ◌++◌, map}
use Rattle.tso_table.specs.Totals.{claims}
use Rattle.tso_table.proofs.settling.open_all.Given as goal

abbrev pub invariant-loop-shard : goal.invariant-loop-shard
invariant-loop-shard g l = (l.tables.items ++ l.shard-iterator.rest.items ≡ l.fn.shards.items) × (l.rests.items ≡ map claims l.tables.items)
