use Rattle.tso_search.proofs.SearchLemmas.{ground_is_closed}
use Rattle.tso_explore.proofs.exploring.begun.Goals as goal

pub started-requires : goal.started-requires
started-requires c = ground_is_closed c.args.checked.now.client c.in_ok-ground.ground c.in_ok-ground.ensures.closed
