use Rattle.tso_search.specs.Shortening.{IsShorter}
use Rattle.tso_search.proofs.lessening.search_choices.Given as goal

abbrev pub invariant-loop-choice : goal.invariant-loop-choice
invariant-loop-choice l = IsShorter l.checked.client l.initial.shortest.trace l.shortest.trace
