use Rattle.std.proofs.Common.{ℕ, ◌<◌, slice_get}
use Rattle.tso_state.specs.Fitting.{FitsAt}
use Rattle.tso_state.proofs.well_formed.threads_fit.Given as goal

abbrev pub invariant-loop-number : goal.invariant-loop-number
invariant-loop-number g l = (k : ℕ) → k < l.number → FitsAt l.client (slice_get (g.S.Viewed.state l.state).threads k) (slice_get (g.S.Viewed.state l.state).history k)
