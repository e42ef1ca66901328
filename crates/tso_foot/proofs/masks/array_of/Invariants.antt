use Rattle.std.proofs.Common.{◌≡◌, drop}
use Rattle.tso_foot.proofs.MaskLemmas.{moved_on}
use Rattle.tso_foot.specs.Masks.{array_of}
use Rattle.tso_foot.proofs.masks.array_of.Given as goal

abbrev pub invariant-loop-number : goal.invariant-loop-number
invariant-loop-number l = array_of l.arrays l.place ≡ moved_on l.number (array_of (drop l.number l.arrays) l.left)
