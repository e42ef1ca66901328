use Rattle.std.proofs.Common.{◌≡◌, map, take}
use Rattle.tso_prog.specs.Content.{array_view}
use Rattle.tso_prog.proofs.finish.arrays_of.Given as goal

abbrev pub invariant-loop-array : goal.invariant-loop-array
invariant-loop-array l = l.arrays.items ≡ map array_view (take l.array-index l.declared)
