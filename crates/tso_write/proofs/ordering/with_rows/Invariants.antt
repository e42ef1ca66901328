use Rattle.std.proofs.Common.{take}
use Rattle.tso_write.specs.Ordering.{ArePlaced}
use Rattle.tso_write.proofs.ordering.with_rows.Given as goal

abbrev pub invariant-loop-number : goal.invariant-loop-number
invariant-loop-number l = ArePlaced l.standings (take l.number-index l.numbers) l.all.items
