use Rattle.std.proofs.Common.{take, ◌≡◌, true}
use Rattle.tso_trace.specs.Parts.{lacks}
use Rattle.tso_trace.proofs.parts.cut.Given as goal

abbrev pub invariant-loop-end : goal.invariant-loop-end
invariant-loop-end l = lacks l.byte (take l.end l.text) ≡ true
