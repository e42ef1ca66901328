use Rattle.std.proofs.Common.{◌≡◌, true, length}
use Rattle.std.specs.List.{list_all}
use Rattle.tso_line.specs.Ranges.{or_out}
use Rattle.tso_line.specs.Proper.{is_word}
use Rattle.tso_line.specs.Lexemes.{pieces}
use Rattle.tso_line.specs.Reading.{each, value_of}
use Rattle.tso_line.proofs.Each.{with_front}
use Rattle.tso_line.proofs.reading.values_of.Given as goal

abbrev pub invariant-loop-piece : goal.invariant-loop-piece
invariant-loop-piece l = record {
  exact : with_front l.values.items (each value_of (pieces l.rest)) ≡ each value_of (pieces l.lexemes);
  passes : list_all (or_out is_word) l.values.items ≡ true;
}

abbrev pub decreases-loop-piece : goal.decreases-loop-piece
decreases-loop-piece l = length l.rest
