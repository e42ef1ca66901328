use Rattle.std.proofs.Common.{◌≡◌, ◌<◌, ℕ, None, Some, map, slice_get}
use Rattle.tso_check.specs.Spans.{IsSpanJudged, Span}
use Rattle.tso_check.proofs.threads.first_found.Given as goal

abbrev pub invariant-loop-number : goal.invariant-loop-number
invariant-loop-number g l = (k : ℕ) (s : Span) → k < l.number → slice_get (map g.P.Part.span l.pieces) k ≡ Some s → IsSpanJudged s None
