use Rattle.std.proofs.Common.{◌≡◌, length, take}
use Rattle.tso_keys.specs.Numbers.{AreNumbersOf}
use Rattle.tso_keys.proofs.viewed_key.find_viewed.Given as goal

abbrev pub invariant-loop-i : goal.invariant-loop-i
invariant-loop-i l = AreNumbersOf l.threads l.numbers (take l.i l.view.threads) × (length l.numbers ≡ 5)
