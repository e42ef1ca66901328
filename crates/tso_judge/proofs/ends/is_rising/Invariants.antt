use Rattle.tso_choose.specs.Choices.{actors_of}
use Rattle.tso_judge.proofs.EndLemmas.{RiseTo}
use Rattle.tso_judge.proofs.ends.is_rising.Given as goal

abbrev pub invariant-loop-k : goal.invariant-loop-k
invariant-loop-k l = RiseTo (actors_of l.choices) l.k
