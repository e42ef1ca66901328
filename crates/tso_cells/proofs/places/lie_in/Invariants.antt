use Rattle.std.proofs.Common.{◌≡◌, drop}
use Rattle.tso_cells.specs.Intervals.{lie_in}
use Rattle.tso_cells.proofs.places.lie_in.Given as goal

abbrev pub invariant-loop-n : goal.invariant-loop-n
invariant-loop-n l = lie_in (drop l.n l.intervals) (drop l.n l.words) ≡ lie_in l.intervals l.words
