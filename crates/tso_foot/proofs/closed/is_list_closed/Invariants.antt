use Rattle.tso_foot.proofs.ClosedLemmas.{AreItems}
use Rattle.tso_foot.proofs.closed.is_list_closed.Given as goal

abbrev pub invariant-loop-i : goal.invariant-loop-i
invariant-loop-i l = AreItems l.arrays l.steps l.items l.i
