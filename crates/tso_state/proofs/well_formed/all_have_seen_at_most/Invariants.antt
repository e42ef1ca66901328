use Rattle.std.proofs.Common.{ℕ, ◌<◌, [], slice_index_or}
use Rattle.tso_state.specs.Fitting.{HaveSeenAtMost}
use Rattle.tso_state.proofs.well_formed.all_have_seen_at_most.Given as goal

abbrev pub invariant-loop-number : goal.invariant-loop-number
invariant-loop-number l = (k : ℕ) → k < l.number → HaveSeenAtMost l.thread l.count (slice_index_or l.history k [])
