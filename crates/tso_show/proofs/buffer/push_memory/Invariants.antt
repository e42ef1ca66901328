use Rattle.std.proofs.Common.{◌≡◌, ◌++◌, drop}
use Rattle.std.specs.String.{string_bytes}
use Rattle.tso_show.specs.Buffers.{words_text}
use Rattle.tso_show.proofs.buffer.push_memory.Given as goal

abbrev pub invariant-loop-place : goal.invariant-loop-place
invariant-loop-place l = string_bytes l.text ++ words_text l.arrays l.place (drop l.place l.words) ≡ string_bytes l.fn.text ++ words_text l.arrays 0 l.words
