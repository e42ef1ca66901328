use Rattle.std.proofs.Common.{◌≡◌, ◌++◌, drop}
use Rattle.std.specs.String.{string_bytes}
use Rattle.std.specs.List.{flat_map}
use Rattle.tso_machine.specs.declared.buffer.Entry.{Entry}
use Rattle.tso_show.specs.Buffers.{entry_text}
use Rattle.tso_show.proofs.buffer.push_entries.Given as goal

abbrev pub invariant-loop-entry : goal.invariant-loop-entry
invariant-loop-entry l = string_bytes l.text ++ flat_map (λ (e : Entry). entry_text l.arrays e.place e.word) (drop l.entry-index l.entries) ≡ string_bytes l.fn.text ++ flat_map (λ (e : Entry). entry_text l.arrays e.place e.word) l.entries
