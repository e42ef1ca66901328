use Rattle.std.proofs.Common.{◌≡◌, ◌+◌, ◌<◌, ◌≤◌, ◌^◌, length, take}
use Rattle.tso_parts.specs.Numbers.{Extends}
use Rattle.tso_keys.specs.Numbers.{AreNumbersOf}
use Rattle.tso_keys.proofs.viewed_key.add_viewed.Given as goal

abbrev pub invariant-loop-i : goal.invariant-loop-i
invariant-loop-i l = AreNumbersOf l.threads l.numbers (take l.i l.view.threads) × Extends l.fn.threads l.threads × (length l.numbers ≡ 5) × (length l.fn.threads < 2 ^ 32 → length l.threads < 2 ^ 32) × (length l.threads ≤ length l.fn.threads + l.i)
