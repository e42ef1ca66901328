use Rattle.std.proofs.Common.{◌≡◌, ◌+◌, ◌<◌, ◌≤◌, ◌^◌, length, take}
use Rattle.tso_parts.specs.Numbers.{Extends}
use Rattle.tso_keys.specs.Numbers.{AreNumbersOf}
use Rattle.tso_keys.proofs.kept.add_row.Given as goal

abbrev pub invariant-loop-i : goal.invariant-loop-i
invariant-loop-i g l = AreNumbersOf l.catalog l.numbers (take l.i l.all) × Extends l.fn.catalog l.catalog × (length l.numbers ≡ 5) × (length l.fn.catalog < 2 ^ 32 → length l.catalog < 2 ^ 32) × (length l.catalog ≤ length l.fn.catalog + l.i)
