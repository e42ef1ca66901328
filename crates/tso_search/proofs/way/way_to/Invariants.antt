use Rattle.tso_search.proofs.WayLemmas.{IsOnWay}
use Rattle.tso_search.proofs.way.way_to.Given as goal

abbrev pub invariant-loop-at : goal.invariant-loop-at
invariant-loop-at l = IsOnWay l.origins l.number l.way.items l.at

abbrev pub decreases-loop-at : goal.decreases-loop-at
decreases-loop-at l = l.at
