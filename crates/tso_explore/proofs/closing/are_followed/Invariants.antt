use Rattle.tso_search.specs.BySteps.{AreFollowed}
use Rattle.tso_explore.proofs.closing.are_followed.Given as goal

abbrev pub invariant-loop-k : goal.invariant-loop-k
invariant-loop-k l = AreFollowed l.store.client l.store.states l.store.states l.number l.set l.k
