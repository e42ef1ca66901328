use Rattle.std.proofs.Common.{◌≡◌, ◌++◌, length}
use Rattle.tso_fences.specs.Lines.{lines_of}
use Rattle.tso_fences.proofs.lines.lines_of.Given as goal

abbrev pub invariant-loop-line : goal.invariant-loop-line
invariant-loop-line l = lines_of l.text ≡ l.lines ++ lines_of l.rest

abbrev pub decreases-loop-line : goal.decreases-loop-line
decreases-loop-line l = length l.rest
