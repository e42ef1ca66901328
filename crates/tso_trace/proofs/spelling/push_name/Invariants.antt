use Rattle.std.proofs.Common.{◌≡◌, ◌++◌, string_bytes, take, IsTrue}
use Rattle.tso_prog.specs.Limits.{is_short_name}
use Rattle.tso_trace.proofs.spelling.push_name.Given as goal

abbrev pub invariant-loop-byte : goal.invariant-loop-byte
invariant-loop-byte l = IsTrue (is_short_name l.name) → string_bytes l.text ≡ string_bytes l.initial.text ++ take l.byte-index l.name
