use Rattle.std.proofs.Common.{◌≡◌, ◌++◌, replicate}
use Rattle.tso_source.specs.Sources.{caret}
use Rattle.tso_source.proofs.source.push_carets.Given as goal

abbrev pub invariant-loop-done : goal.invariant-loop-done
invariant-loop-done l = l.bytes.items ≡ l.fn.bytes.items ++ replicate l._done caret
