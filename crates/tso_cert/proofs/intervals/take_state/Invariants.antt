use Rattle.std.proofs.Common.{ℕ, ◌<◌}
use Rattle.tso_cert.specs.Seen.{Keeps, ThreadIsSeen}
use Rattle.tso_cert.proofs.intervals.take_state.Given as goal

abbrev pub invariant-loop-number : goal.invariant-loop-number
invariant-loop-number g l = record {
  keeps : Keeps l.fn.hull l.hull;
  seen : (i : ℕ) → i < l.number → ThreadIsSeen l.hull (g.S.Viewed.state l.state) i;
}
