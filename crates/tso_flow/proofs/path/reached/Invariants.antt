use Rattle.std.proofs.Common.{◌≡◌, ◌<◌, true, length}
use Rattle.tso_flow.specs.Marks.{is_marked, unmarked, AllReached}
use Rattle.tso_flow.proofs.path.reached.Given as goal

abbrev pub invariant-grow : goal.invariant-grow
invariant-grow l = record {
  same : length l.marks.items ≡ length l.steps;
  reached : AllReached l.tracked l.steps l.marks.items;
  first : 0 < length l.steps → is_marked l.marks.items 0 ≡ true;
}

abbrev pub decreases-grow : goal.decreases-grow
decreases-grow l = unmarked l.marks.items
