use Rattle.std.proofs.Common.{◌≡◌, ◌++◌, drop}
use Rattle.std.specs.String.{string_bytes}
use Rattle.tso_show.specs.Buffers.{holders_text}
use Rattle.tso_show.proofs.buffer.push_holders.Given as goal

abbrev pub invariant-loop-number : goal.invariant-loop-number
invariant-loop-number l = string_bytes l.text ++ holders_text l.reader l.place l.number (drop l.number l.threads) ≡ string_bytes l.fn.text ++ holders_text l.reader l.place 0 l.threads
