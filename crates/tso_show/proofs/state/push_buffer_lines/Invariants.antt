use Rattle.std.proofs.Common.{◌≡◌, ◌++◌, drop}
use Rattle.std.specs.String.{string_bytes}
use Rattle.tso_show.specs.States.{buffer_lines}
use Rattle.tso_show.proofs.state.push_buffer_lines.Given as goal

abbrev pub invariant-loop-number : goal.invariant-loop-number
invariant-loop-number l = string_bytes l.text ++ buffer_lines l.arrays l.number (drop l.number l.threads) ≡ string_bytes l.fn.text ++ buffer_lines l.arrays 0 l.threads
