use Rattle.std.proofs.Common.{◌≡◌, ◌++◌, drop}
use Rattle.tso_machine.specs.Places.{first_memory}
use Rattle.tso_machine.proofs.first.first_memory.Given as goal

abbrev pub invariant-loop-array : goal.invariant-loop-array
invariant-loop-array l = l.words.items ++ first_memory (drop l.array-index l.arrays) ≡ first_memory l.arrays
