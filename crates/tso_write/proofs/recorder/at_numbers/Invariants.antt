use Rattle.std.proofs.Common.{◌≡◌, ◌++◌, drop}
use Rattle.tso_keys.specs.Numbers.{values_at}
use Rattle.tso_write.proofs.recorder.at_numbers.Given as goal

abbrev pub invariant-loop-number : goal.invariant-loop-number
invariant-loop-number g l = l.all ++ values_at l.parts (drop l.number-index l.numbers) ≡ values_at l.parts l.numbers
