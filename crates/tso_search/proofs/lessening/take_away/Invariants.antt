use Rattle.tso_search.specs.Shortening.{IsShorter}
use Rattle.tso_search.proofs.lessening.take_away.Given as goal

abbrev pub invariant-loop : goal.invariant-loop
invariant-loop l = IsShorter l.checked.client l.initial.shortest.trace l.shortest.trace
