use Rattle.std.proofs.Common.{◌≡◌, ◌+◌, ◌*◌, vec_len}
use Rattle.tso_table.specs.Totals.{allotment}
use Rattle.tso_pool.proofs.searching.empty_shards.Given as goal

abbrev pub invariant-loop-number : goal.invariant-loop-number
invariant-loop-number g l =
    (l.units.parts + l.number ≡ 17) × (l.units.amount ≡ 0) × (l.calls.parts + l.number ≡ l.initial.calls.parts) × (l.calls.amount + l.number * allotment ≡ 16 * allotment) × (vec_len l.shards ≡ l.number)
