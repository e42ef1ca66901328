use Rattle.tso_search.specs.Shortening.{IsShorter}
use Rattle.tso_search.proofs.shortening.cut_round.Given as goal

abbrev pub invariant-loop-narrower : goal.invariant-loop-narrower
invariant-loop-narrower l = IsShorter l.checked.client l.fn.shortest.trace l.shortest.trace
