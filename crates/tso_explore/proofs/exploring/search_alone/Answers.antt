use Rattle.tso_search.proofs.SearchLemmas.{done_none}
use Rattle.tso_explore.proofs.exploring.search_alone.Goals as goal

pub search-requires-clause-done : goal.search-requires-clause-done
search-requires-clause-done g c = done_none c.args.checked.now.client c.args.ground.now c.args.store.now.states c.new-marks.result c.new-marks.ensures

pub search-requires-2-clause-done : goal.search-requires-2-clause-done
search-requires-2-clause-done g c = done_none c.args.checked.now.client c.args.ground.now c.search.new.store.states c.new-marks.result c.new-marks.ensures
