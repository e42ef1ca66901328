use Rattle.tso_search.proofs.WayLemmas.{trail_first}
use Rattle.tso_search.proofs.trail.first_trail.Goals as goal

pub begin_on-requires-clause-trail : goal.begin_on-requires-clause-trail
begin_on-requires-clause-trail c = trail_first c.args.checked.now.client _ c.in_ok-state.ensures.first c.new.ensures.items
