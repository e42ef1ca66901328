use Rattle.std.proofs.Common.{◌≡◌, ◌≤◌, ℕ, List, length}
use Rattle.std.specs.List.{flat_map}
use Rattle.tso_write.specs.Ordering.{AreGroups}
use Rattle.tso_keys.specs.declared.rank_rows.Row.{Row}
use Rattle.tso_write.proofs.ordering.make_room.Given as goal

abbrev pub invariant-loop-count : goal.invariant-loop-count
invariant-loop-count l = record {
  room : l._count ≤ length l.groups;
  same : flat_map (λ g. g) l.groups ≡ flat_map (λ g. g) l.initial.groups;
  each : (rows : List Row) (first : ℕ) → AreGroups rows first l.initial.groups → AreGroups rows first l.groups;
}
