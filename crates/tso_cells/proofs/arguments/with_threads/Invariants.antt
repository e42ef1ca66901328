use Rattle.tso_cells.specs.Intervals.{IsInside}
use Rattle.tso_cells.proofs.StartLemmas.{HasThreads}
use Rattle.tso_cells.proofs.arguments.with_threads.Given as goal

abbrev pub invariant-loop-i : goal.invariant-loop-i
invariant-loop-i l = record {
  keeps : IsInside l.fn.interval l.all;
  has : HasThreads l.all l.threads l.i;
}
