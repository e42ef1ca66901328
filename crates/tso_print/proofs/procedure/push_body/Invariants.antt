use Rattle.std.proofs.Common.{◌≡◌, ◌++◌, drop}
use Rattle.std.specs.String.{string_bytes}
use Rattle.tso_print.specs.Pieces.{text_of}
use Rattle.tso_print.specs.Layout.{body_lines}
use Rattle.tso_print.proofs.procedure.push_body.Given as goal

abbrev pub invariant-loop-at : goal.invariant-loop-at
invariant-loop-at l =
    string_bytes l.text ++ text_of (body_lines l.arrays l.steps l.at (drop l.at l.steps)) ≡ string_bytes l.fn.text ++ text_of (body_lines l.arrays l.steps 0 l.steps)
