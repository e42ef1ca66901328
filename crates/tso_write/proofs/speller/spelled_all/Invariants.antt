use Rattle.std.proofs.Common.{◌≡◌, map, take}
use Rattle.tso_write.proofs.speller.spelled_all.Given as goal

abbrev pub invariant-loop-value : goal.invariant-loop-value
invariant-loop-value g l = l.all ≡ map g.T.Code.spell (take l.value-index l.values)
