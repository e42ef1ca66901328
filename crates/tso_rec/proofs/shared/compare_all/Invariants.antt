use Rattle.std.proofs.Common.{◌≡◌, drop}
use Rattle.std.specs.Cmp.Lexicographic.{slice_cmp}
use Rattle.tso_rec.proofs.shared.compare_all.Given as goal

abbrev pub invariant-loop-i : goal.invariant-loop-i
invariant-loop-i g l = slice_cmp g.T.Ord.cmp (drop l.i l.parts) (drop l.i l.values) ≡ slice_cmp g.T.Ord.cmp l.parts l.values
