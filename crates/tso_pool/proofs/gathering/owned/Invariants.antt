use Rattle.std.proofs.Common.{◌≡◌, ◌+◌, vec_len, length}
use Rattle.tso_pool.proofs.gathering.owned.Given as goal

abbrev pub invariant-loop-cell : goal.invariant-loop-cell
invariant-loop-cell g l = vec_len l.shards + length l.cell-iterator.rest.items ≡ vec_len l.fn.cells
