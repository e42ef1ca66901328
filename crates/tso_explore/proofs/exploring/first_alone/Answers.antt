use Rattle.std.proofs.Common.{◌∙◌}
use Rattle.tso_explore.proofs.FirstLemmas.{bad_first, begun_alone, first_alone_as}
use Rattle.tso_search.proofs.SearchLemmas.{searched_first}
use Rattle.tso_explore.proofs.exploring.first_alone.Goals as goal

pub short_trace-requires : goal.short_trace-requires
short_trace-requires g c =
    bad_first c.args.checked.now.client c.args.ground.now c.args.checked.now.no_fault c.args.store.now.states _ c.in_ok-is_first_good.field-0 c.requires.started (c.as_slice.ensures.value ∙ c.new-origins.ensures.items)
    c.in_ok-is_first_good.ensures c.if-not-branch.true

pub search_alone-requires-clause-searched : goal.search_alone-requires-clause-searched
search_alone-requires-clause-searched g c = searched_first c.args.checked.now.client c.args.ground.now c.args.checked.now.no_fault c.args.store.now.states c.new-origins.result.items c.requires.started c.new-origins.ensures.items

pub returns-in-Ok : goal.returns-in-Ok
returns-in-Ok g c =
    let after = c.in-Ok.ensures in
    begun_alone c.args.checked.now.client c.args.limit c.args.ground.now c.search_alone.new.store c.search_alone.new.origins.items c.in-Ok.number (c.search_alone.ensures.client ∙ c.requires.client) after.searched after.good after.low after.few

pub returns : goal.returns
returns g c = first_alone_as c.args.checked.now.client c.args.limit c.args.ground.now c.search_alone.new.store c.stopped_first.result c.stopped_first.ensures
