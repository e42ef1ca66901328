use Rattle.std.proofs.Common.{ℕ, ◌<◌, [], slice_index_or}
use Rattle.tso_state.specs.Fitting.{HaveAllSeenAtMost}
use Rattle.tso_state.specs.WellFormed.{answered_count}
use Rattle.tso_state.proofs.well_formed.seen_fits.Given as goal

abbrev pub invariant-loop-thread : goal.invariant-loop-thread
invariant-loop-thread l =
    (k : ℕ) → k < l.thread → HaveAllSeenAtMost l.history l.width k (answered_count (slice_index_or l.history k []))
