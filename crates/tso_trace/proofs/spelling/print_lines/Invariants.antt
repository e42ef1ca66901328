use Rattle.std.proofs.Common.{◌≡◌, true, take}
use Rattle.std.specs.Io.KnownBytes.{Appends}
use Rattle.std.specs.List.{list_all}
use Rattle.tso_trace.specs.Grammar.{lines_text}
use Rattle.tso_trace.specs.Parts.{has_words}
use Rattle.tso_trace.proofs.spelling.print_lines.Given as goal

abbrev pub invariant-loop-label : goal.invariant-loop-label
invariant-loop-label g l = record {
  words : list_all has_words (take l.label-index l.labels) ≡ true;
  printed : Appends (g.W.Write.contents l.initial.out) (g.W.Write.contents l.out) (lines_text l.arrays (take l.label-index l.labels));
}
