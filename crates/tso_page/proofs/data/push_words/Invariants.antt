use Rattle.std.proofs.Common.{◌≡◌, ◌++◌, drop}
use Rattle.std.specs.String.{string_bytes}
use Rattle.std.specs.List.{flat_map}
use Rattle.tso_page.specs.Data.{word_data}
use Rattle.tso_page.proofs.data.push_words.Given as goal

abbrev pub invariant-loop-word : goal.invariant-loop-word
invariant-loop-word l = string_bytes l.data ++ flat_map word_data (drop l.word-index l.words) ≡ string_bytes l.fn.data ++ flat_map word_data l.words
