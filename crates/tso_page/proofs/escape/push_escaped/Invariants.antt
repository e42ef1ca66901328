use Rattle.std.proofs.Common.{◌≡◌, ◌++◌, drop}
use Rattle.tso_page.specs.Escapes.{escaped}
use Rattle.tso_page.proofs.escape.push_escaped.Given as goal

abbrev pub invariant-loop-byte : goal.invariant-loop-byte
invariant-loop-byte l = l.page.items ++ escaped (drop l.byte-index l.text) ≡ l.fn.page.items ++ escaped l.text
