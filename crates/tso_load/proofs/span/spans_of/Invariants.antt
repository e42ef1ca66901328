use Rattle.std.proofs.Common.{◌≡◌, ◌↔◌, [], ◌∷◌, ◌++◌, drop, map, take, Some}
use Rattle.tso_load.specs.Spans.{AreOneBehindAnother, RiseFrom}
use Rattle.tso_load.specs.declared.span.Span.{Span}
use Rattle.tso_load.proofs.span.spans_of.Given as goal

abbrev pub invariant-loop-seam : goal.invariant-loop-seam
invariant-loop-seam l = record {
  behind : AreOneBehindAnother 0 l.spans.items l.start;
  begin : map (λ (s : Span). Some s.start) l.spans.items ++ Some l.start ∷ [] ≡ Some 0 ∷ take l.seam-index l.seams;
  rise : RiseFrom 0 l.seams ↔ RiseFrom l.start (drop l.seam-index l.seams);
}
