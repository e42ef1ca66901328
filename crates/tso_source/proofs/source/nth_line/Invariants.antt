use Rattle.std.proofs.Common.{◌≡◌, ◌-◌, slice_get}
use Rattle.tso_source.specs.Sources.{lines_of}
use Rattle.tso_source.proofs.source.nth_line.Given as goal

abbrev pub invariant-loop-done : goal.invariant-loop-done
invariant-loop-done l = slice_get (lines_of l.rest) (l.index - l._done) ≡ slice_get (lines_of l.text) l.index
