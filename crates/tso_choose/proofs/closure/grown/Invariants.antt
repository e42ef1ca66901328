use Rattle.tso_choose.proofs.ClosureLemmas.{IsRound}
use Rattle.tso_choose.proofs.closure.grown.Given as goal

abbrev pub invariant-loop-k : goal.invariant-loop-k
invariant-loop-k l = IsRound l.needs l.set l.k l.all
