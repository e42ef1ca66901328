use Rattle.std.proofs.Common.{◌≡◌, ℕ, Bool, false}
use Rattle.tso_cells.specs.Growing.{AreGrown}
use Rattle.tso_cells.specs.Spans.{AllHandBack, AreSpans, AreTaken}
use Rattle.tso_cells.proofs.spans.spread_back.Given as goal

abbrev pub invariant-loop-i : goal.invariant-loop-i
invariant-loop-i l = record {
  grown : AreGrown l.growth l.whole l.initial.spans l.spans l.is_grown;
  taken : l.is_grown ≡ false → AreTaken l.steps l.spans l.i;
  spans : (needs : ℕ → Bool) → AllHandBack l.steps needs → AreSpans l.whole needs l.initial.spans → AreSpans l.whole needs l.spans;
}
