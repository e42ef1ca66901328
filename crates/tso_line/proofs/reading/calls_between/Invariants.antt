use Rattle.std.proofs.Common.{◌≡◌, true, length}
use Rattle.std.specs.List.{list_all}
use Rattle.tso_line.specs.Ranges.{or_out}
use Rattle.tso_line.specs.Proper.{is_call}
use Rattle.tso_line.specs.Lexemes.{pieces}
use Rattle.tso_line.specs.Reading.{each, call_of}
use Rattle.tso_line.proofs.Each.{with_front}
use Rattle.tso_line.proofs.reading.calls_between.Given as goal

abbrev pub invariant-loop-piece : goal.invariant-loop-piece
invariant-loop-piece l = record {
  exact : with_front l.calls.items (each call_of (pieces l.rest)) ≡ each call_of (pieces l.lexemes);
  passes : list_all (or_out is_call) l.calls.items ≡ true;
}

abbrev pub decreases-loop-piece : goal.decreases-loop-piece
decreases-loop-piece l = length l.rest
