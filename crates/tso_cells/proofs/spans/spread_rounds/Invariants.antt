use Rattle.std.proofs.Common.{◌≡◌, ℕ, Bool, length}
use Rattle.tso_cells.specs.Inductive.{AreInside}
use Rattle.tso_cells.specs.Spans.{AllHandBack, AreSpans}
use Rattle.tso_cells.proofs.spans.spread_rounds.Given as goal

abbrev pub invariant-loop-round : goal.invariant-loop-round
invariant-loop-round l = record {
  count : length l.spans ≡ length l.initial.spans;
  keeps : AreInside l.initial.spans l.spans;
  spans : (needs : ℕ → Bool) → AllHandBack l.steps needs → AreSpans l.whole needs l.initial.spans → AreSpans l.whole needs l.spans;
}
