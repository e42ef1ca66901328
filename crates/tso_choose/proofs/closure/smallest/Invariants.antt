use Rattle.tso_choose.proofs.ClosureLemmas.{IsBest}
use Rattle.tso_choose.proofs.closure.smallest.Given as goal

abbrev pub invariant-loop-k : goal.invariant-loop-k
invariant-loop-k l = IsBest l.needs l.numbers l.k l.best
