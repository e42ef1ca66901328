use Rattle.std.proofs.Common.{◌≡◌, ◌++◌, drop}
use Rattle.std.specs.String.{string_bytes}
use Rattle.tso_print.specs.Pieces.{spelled}
use Rattle.tso_print.specs.Layout.{more_values}
use Rattle.tso_print.proofs.client.push_more_values.Given as goal

abbrev pub invariant-loop-value : goal.invariant-loop-value
invariant-loop-value l = string_bytes l.text ++ spelled (more_values (drop l.value-index l.values)) ≡ string_bytes l.fn.text ++ spelled (more_values l.values)
