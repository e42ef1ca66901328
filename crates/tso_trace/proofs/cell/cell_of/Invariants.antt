use Rattle.std.proofs.Common.{◌≡◌, ◌+◌}
use Rattle.tso_machine.specs.Places.{first_place}
use Rattle.tso_trace.proofs.cell.cell_of.Given as goal

abbrev pub invariant-loop-array : goal.invariant-loop-array
invariant-loop-array l = first_place l.arrays l.array + l.index ≡ l.place
