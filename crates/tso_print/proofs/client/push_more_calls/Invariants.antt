use Rattle.std.proofs.Common.{◌≡◌, ◌++◌, drop}
use Rattle.std.specs.String.{string_bytes}
use Rattle.tso_print.specs.Pieces.{spelled}
use Rattle.tso_print.specs.Layout.{more_calls}
use Rattle.tso_print.proofs.client.push_more_calls.Given as goal

abbrev pub invariant-loop-call : goal.invariant-loop-call
invariant-loop-call l = string_bytes l.text ++ spelled (more_calls (drop l.call-index l.calls)) ≡ string_bytes l.fn.text ++ spelled (more_calls l.calls)
