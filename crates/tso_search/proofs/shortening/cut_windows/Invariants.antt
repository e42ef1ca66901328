use Rattle.tso_search.specs.Shortening.{IsShorter}
use Rattle.tso_search.proofs.shortening.cut_windows.Given as goal

abbrev pub invariant-loop-from : goal.invariant-loop-from
invariant-loop-from l = IsShorter l.checked.client l.initial.shortest.trace l.shortest.trace
