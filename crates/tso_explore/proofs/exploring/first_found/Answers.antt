use Rattle.std.proofs.Common.{◌∙◌}
use Rattle.tso_explore.proofs.FirstLemmas.{bad_first, first_found_as}
use Rattle.tso_search.proofs.SearchLemmas.{done_none, searched_first}
use Rattle.tso_explore.proofs.exploring.first_found.Goals as goal

pub short_trace-requires : goal.short_trace-requires
short_trace-requires g c =
    bad_first c.args.checked.now.client c.args.ground.now c.args.checked.now.no_fault c.args.store.now.states _ c.in_ok-is_first_good.field-0 c.requires.started (c.as_slice.ensures.value ∙ c.requires.none)
    c.in_ok-is_first_good.ensures c.if-not-branch.true

pub search-requires-clause-searched : goal.search-requires-clause-searched
search-requires-clause-searched g c = searched_first c.args.checked.now.client c.args.ground.now c.args.checked.now.no_fault c.args.store.now.states c.args.origins.now.items c.requires.started c.requires.none

pub search-requires-clause-done : goal.search-requires-clause-done
search-requires-clause-done g c = done_none c.args.checked.now.client c.args.ground.now c.args.store.now.states c.args.marks.now c.requires.unmarked

pub returns-in-Err : goal.returns-in-Err
returns-in-Err g c = record { found = first_found_as c.args.checked.now.client c.args.limit c.args.ground.now c.search.new.store c.search.new.origins.items c.args.marks.now c.stopped_first.result c.stopped_first.ensures }
