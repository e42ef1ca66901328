use Rattle.std.proofs.Common.{◌≡◌, ℕ, ◌&&◌, nat_lt, None, slice_index_or}
use Rattle.std.specs.Prelude.{is_some}
use Rattle.tso_choose.specs.Closures.{has_bit}
use Rattle.tso_choose.proofs.choosing.enabled_in.Given as goal

abbrev pub invariant-loop-number : goal.invariant-loop-number
invariant-loop-number l = (k : ℕ) → has_bit l.set k ≡ (nat_lt k l.number && is_some (slice_index_or l.kinds k None))
