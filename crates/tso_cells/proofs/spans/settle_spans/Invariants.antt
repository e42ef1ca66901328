use Rattle.std.proofs.Common.{◌≡◌, ℕ, Bool, length}
use Rattle.tso_cells.specs.Inductive.{AreInside}
use Rattle.tso_cells.specs.Growing.{room}
use Rattle.tso_cells.specs.Spans.{AllHandBack, AreSpans}
use Rattle.tso_cells.proofs.spans.settle_spans.Given as goal

abbrev pub invariant-grow : goal.invariant-grow
invariant-grow l = record {
  count : length l.spans ≡ length l.fn.spans;
  keeps : AreInside l.fn.spans l.spans;
  spans : (needs : ℕ → Bool) → AllHandBack l.steps needs → AreSpans l.whole needs l.fn.spans → AreSpans l.whole needs l.spans;
}

abbrev pub decreases-grow : goal.decreases-grow
decreases-grow l = room l.whole l.spans
