use Rattle.std.proofs.Common.{◌≡◌, ◌++◌, drop}
use Rattle.std.specs.List.{filter}
use Rattle.tso_page.specs.Data.{is_data}
use Rattle.tso_page.proofs.escape.push_data.Given as goal

abbrev pub invariant-loop-byte : goal.invariant-loop-byte
invariant-loop-byte l = l.page.items ++ filter is_data (drop l.byte-index l.data) ≡ l.fn.page.items ++ filter is_data l.data
