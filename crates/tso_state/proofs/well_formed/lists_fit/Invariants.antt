use Rattle.std.proofs.Common.{ℕ, ◌<◌, [], slice_index_or}
use Rattle.tso_state.specs.Fitting.{AreTheThreads}
use Rattle.tso_state.proofs.well_formed.lists_fit.Given as goal

abbrev pub invariant-loop-number : goal.invariant-loop-number
invariant-loop-number l = (k : ℕ) → k < l.number → AreTheThreads l.client k (slice_index_or l.history k [])
