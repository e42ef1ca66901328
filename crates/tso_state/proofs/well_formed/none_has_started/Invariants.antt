use Rattle.std.proofs.Common.{ℕ, ◌<◌}
use Rattle.tso_state.specs.Fitting.{IsOtherStarted}
use Rattle.tso_state.proofs.well_formed.none_has_started.Given as goal

abbrev pub invariant-loop-number : goal.invariant-loop-number
invariant-loop-number g l = (k : ℕ) → k < l.number → IsOtherStarted (g.S.Viewed.state l.state) l.prologue k → ⊥
