use Rattle.std.proofs.Common.{◌≡◌, take}
use Rattle.tso_rec.proofs.shared.keep_all.Given as goal

abbrev pub invariant-loop-i : goal.invariant-loop-i
invariant-loop-i g l = l.kept ≡ take l.i l.parts
