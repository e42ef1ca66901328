use Rattle.std.proofs.Common.{◌≡◌, ◌++◌, drop}
use Rattle.std.specs.String.{string_bytes}
use Rattle.std.specs.List.{flat_map}
use Rattle.tso_page.specs.Data.{entry_data}
use Rattle.tso_page.proofs.data.push_entries.Given as goal

abbrev pub invariant-loop-entry : goal.invariant-loop-entry
invariant-loop-entry l = string_bytes l.data ++ flat_map entry_data (drop l.entry-index l.entries) ≡ string_bytes l.fn.data ++ flat_map entry_data l.entries
