use Rattle.std.proofs.Common.{◌≡◌, ◌++◌, drop, map}
use Rattle.std.specs.String.{string_bytes}
use Rattle.tso_print.specs.Pieces.{text_of}
use Rattle.tso_print.specs.Layout.{array_pieces}
use Rattle.tso_print.proofs.client.push_arrays.Given as goal

abbrev pub invariant-loop-array : goal.invariant-loop-array
invariant-loop-array l = string_bytes l.text ++ text_of (map array_pieces (drop l.array-index l.arrays)) ≡ string_bytes l.fn.text ++ text_of (map array_pieces l.arrays)
