use Rattle.std.proofs.Common.{◌≡◌, ◌++◌, ◌<◌, ◌^◌, ◌+◌, ◌*◌, ℕ}
use Rattle.tso_code.specs.Numbers.{digits}
use Rattle.tso_code.proofs.code.write_number.Given as goal

abbrev pub invariant-loop-rest : goal.invariant-loop-rest
invariant-loop-rest l = (k : ℕ) × (l.rest < 2 ^ (7 * k + 1)) × (l.out.items ++ digits k l.rest ≡ l.initial.out.items ++ digits 9 l.n)

abbrev pub decreases-loop-rest : goal.decreases-loop-rest
decreases-loop-rest l = l.rest
