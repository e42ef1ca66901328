use Rattle.tso_search.specs.Shortening.{IsShorter}
use Rattle.tso_search.proofs.lessening.fewest.Given as goal

abbrev pub invariant-loop-thread : goal.invariant-loop-thread
invariant-loop-thread l = IsShorter l.checked.client l.initial.shortest.trace l.shortest.trace
