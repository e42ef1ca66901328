use Rattle.std.proofs.Common.{ℕ, ◌<◌}
use Rattle.tso_foot.specs.Within.{ThreadLies}
use Rattle.tso_foot.proofs.within.is_within.Given as goal

abbrev pub invariant-loop-number : goal.invariant-loop-number
invariant-loop-number g l = (i : ℕ) → i < l.number → ThreadLies l.table (g.S.Viewed.state l.state) i
