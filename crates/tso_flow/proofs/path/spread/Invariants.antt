use Rattle.std.proofs.Common.{◌≡◌, ◌<◌, true, false, length}
use Rattle.tso_flow.specs.Marks.{unmarked, Keeps, AllReached, IsClosed}
use Rattle.tso_flow.proofs.path.spread.Given as goal

abbrev pub invariant-loop-i : goal.invariant-loop-i
invariant-loop-i l = record {
  same : length l.marks ≡ length l.steps;
  keeps : Keeps l.initial.marks l.marks;
  reached : AllReached l.tracked l.steps l.marks;
  new : l.grown ≡ true → unmarked l.marks < unmarked l.initial.marks;
  old : l.grown ≡ false → l.marks ≡ l.initial.marks;
  closed : l.grown ≡ false → IsClosed l.tracked l.steps l.marks l.i;
}
