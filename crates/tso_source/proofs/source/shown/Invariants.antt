use Rattle.std.proofs.Common.{◌≡◌, map, take}
use Rattle.tso_source.specs.Sources.{shown_byte}
use Rattle.tso_source.proofs.source.shown.Given as goal

abbrev pub invariant-loop-byte : goal.invariant-loop-byte
invariant-loop-byte l = l.bytes.items ≡ map shown_byte (take l.byte-index l.line)
