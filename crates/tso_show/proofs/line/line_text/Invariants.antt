use Rattle.std.proofs.Common.{◌≡◌}
use Rattle.tso_show.specs.Lines.{behind_lines}
use Rattle.tso_show.proofs.line.line_text.Given as goal

abbrev pub invariant-loop-done : goal.invariant-loop-done
invariant-loop-done l = l.rest ≡ behind_lines l._done l.text
