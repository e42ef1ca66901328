use Rattle.std.proofs.Common.{◌-◌}
use Rattle.tso_search.specs.Shortening.{IsShorter}
use Rattle.tso_search.proofs.shortening.cut_end.Given as goal

abbrev pub invariant-loop-good : goal.invariant-loop-good
invariant-loop-good l = IsShorter l.checked.client l.initial.shortest.trace l.shortest.trace

abbrev pub decreases-loop-good : goal.decreases-loop-good
decreases-loop-good l = l.bad - l.good
