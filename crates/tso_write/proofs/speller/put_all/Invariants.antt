use Rattle.std.proofs.Common.{◌≡◌, ◌++◌, take}
use Rattle.tso_write.proofs.speller.put_all.Given as goal

abbrev pub invariant-loop-number : goal.invariant-loop-number
invariant-loop-number l = l.all ≡ l.initial.all ++ take l.number l.more
