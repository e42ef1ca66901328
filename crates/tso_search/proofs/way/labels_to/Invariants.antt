use Rattle.std.proofs.Common.{length}
use Rattle.tso_search.proofs.WayLemmas.{IsTrailTo}
use Rattle.tso_search.proofs.way.labels_to.Given as goal

abbrev pub invariant-loop-origin : goal.invariant-loop-origin
invariant-loop-origin l = IsTrailTo l.checked.client l.ground l.origins l.number l.way.items l.trail

abbrev pub decreases-loop-origin : goal.decreases-loop-origin
decreases-loop-origin l = length l.way.items
