use Rattle.std.proofs.Common.{◌≡◌, ◌%◌, ◌<◌, take, sum}
use Rattle.tso_table.proofs.number.sum_of_words.Given as goal

abbrev pub invariant-loop-word : goal.invariant-loop-word
invariant-loop-word l = (l.sum ≡ sum (take l.word-index l.words) % 16) × (l.sum < 16)
