use Rattle.std.proofs.Common.{◌≡◌, ◌++◌, drop}
use Rattle.tso_keys.specs.Numbers.{values_at}
use Rattle.tso_scan.proofs.histories.copied_lists.Given as goal

abbrev pub invariant-loop-number : goal.invariant-loop-number
invariant-loop-number l = l.copies ++ values_at l.lists (drop l.number-index l.numbers) ≡ values_at l.lists l.numbers
