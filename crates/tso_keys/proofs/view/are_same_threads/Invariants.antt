use Rattle.std.proofs.Common.{◌≡◌, ◌<◌, ℕ, length, slice_get}
use Rattle.tso_keys.proofs.view.are_same_threads.Given as goal

abbrev pub invariant-loop-number : goal.invariant-loop-number
invariant-loop-number l = (length l.a.threads ≡ length l.b.threads) × ((k : ℕ) → k < l.number → slice_get l.a.threads k ≡ slice_get l.b.threads k)
