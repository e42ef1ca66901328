use Rattle.tso_write.specs.Ordering.{AreGrouped}
use Rattle.tso_write.proofs.ordering.grouped.Given as goal

abbrev pub invariant-loop-number : goal.invariant-loop-number
invariant-loop-number l = AreGrouped l.standings l.number l.groups
