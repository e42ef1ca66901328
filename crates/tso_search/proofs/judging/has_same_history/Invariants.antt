use Rattle.std.proofs.Common.{◌≡◌, ◌<◌, ℕ, length, slice_get}
use Rattle.tso_search.proofs.judging.has_same_history.Given as goal

abbrev pub invariant-loop-thread : goal.invariant-loop-thread
invariant-loop-thread g l =
    (length (g.A.Viewed.state l.a).history ≡ length (g.B.Viewed.state l.b).history)
    × (l.thread-end ≡ length (g.A.Viewed.state l.a).history)
    × ((k : ℕ) → k < l.thread → slice_get (g.A.Viewed.state l.a).history k ≡ slice_get (g.B.Viewed.state l.b).history k)
