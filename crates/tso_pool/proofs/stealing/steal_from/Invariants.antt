use Rattle.tso_pool.proofs.Tried.{IsTried}
use Rattle.tso_pool.proofs.stealing.steal_from.Given as goal

abbrev pub invariant-loop-at : goal.invariant-loop-at
invariant-loop-at g l = IsTried l.initial.victims l.victims l.at
