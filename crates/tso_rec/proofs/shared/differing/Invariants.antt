use Rattle.std.proofs.Common.{◌≡◌, ◌+◌, ◌≤◌, drop}
use Rattle.tso_rec.specs.Parts.{differing}
use Rattle.tso_rec.proofs.shared.differing.Given as goal

abbrev pub invariant-loop-i : goal.invariant-loop-i
invariant-loop-i g l = (l.count + differing g.T.PartialEq.eq (drop l.i l.before) (drop l.i l.parts) ≡ differing g.T.PartialEq.eq l.before l.parts) × (l.count ≤ l.i)
