use Rattle.tso_search.specs.Shortening.{IsShorter}
use Rattle.tso_search.proofs.shortening.cut_calls.Given as goal

abbrev pub invariant-loop-behind : goal.invariant-loop-behind
invariant-loop-behind l = IsShorter l.checked.client l.initial.shortest.trace l.shortest.trace
