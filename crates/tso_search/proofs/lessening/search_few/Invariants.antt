use Rattle.tso_search.specs.Shortening.{IsShorter}
use Rattle.tso_search.proofs.lessening.search_few.Given as goal

abbrev pub invariant-loop-total : goal.invariant-loop-total
invariant-loop-total l = IsShorter l.checked.client l.initial.shortest.trace l.shortest.trace
