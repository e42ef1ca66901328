use Rattle.std.proofs.Common.{◌≡◌, ◌++◌, drop, map}
use Rattle.std.specs.String.{string_bytes}
use Rattle.tso_print.specs.Pieces.{text_of}
use Rattle.tso_print.specs.Layout.{thread_pieces}
use Rattle.tso_print.proofs.client.push_threads.Given as goal

abbrev pub invariant-loop-calls : goal.invariant-loop-calls
invariant-loop-calls l = string_bytes l.text ++ text_of (map thread_pieces (drop l.calls-index l.threads)) ≡ string_bytes l.fn.text ++ text_of (map thread_pieces l.threads)
