use Rattle.std.proofs.Common.{◌≡◌}
use Rattle.tso_keys.specs.Orders.{numbers_below}
use Rattle.tso_keys.proofs.ranks.all_numbers.Given as goal

abbrev pub invariant-loop-number : goal.invariant-loop-number
invariant-loop-number l = l.numbers.items ≡ numbers_below l.number
