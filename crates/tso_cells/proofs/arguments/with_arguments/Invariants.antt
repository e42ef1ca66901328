use Rattle.tso_cells.specs.Intervals.{IsInside}
use Rattle.tso_cells.proofs.StartLemmas.{HasFirst}
use Rattle.tso_cells.proofs.arguments.with_arguments.Given as goal

abbrev pub invariant-loop-n : goal.invariant-loop-n
invariant-loop-n l = record {
  keeps : IsInside l.fn.interval l.all;
  has : HasFirst l.all l.calls l.n;
}
