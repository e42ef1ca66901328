use Rattle.std.proofs.Common.{◌≡◌, length}
use Rattle.tso_prog.specs.Content.{content}
use Rattle.tso_prog.specs.Start.{start}
use Rattle.tso_prog.specs.Limited.{IsLimited, IsPrintable}
use Rattle.tso_prog.specs.Program.{read_from, lines_of}
use Rattle.tso_prog.proofs.text.each_line.Given as goal

abbrev pub invariant-loop-line : goal.invariant-loop-line
invariant-loop-line l = record {
  limited : IsLimited (content l.draft);
  printable : IsPrintable (content l.draft);
  so_far : read_from (content l.draft) (lines_of l.source l.rest) ≡ read_from start (lines_of l.source l.tokens);
}

abbrev pub decreases-loop-line : goal.decreases-loop-line
decreases-loop-line l = length l.rest
