use Rattle.tso_search.proofs.SearchLemmas.{started_begun}
use Rattle.tso_search.specs.BySteps.{any_steps}
use Rattle.tso_explore.proofs.merging.merged.Goals as goal

pub fill-requires-clause-begun : goal.fill-requires-clause-begun
fill-requires-clause-begun c = started_begun c.args.checked.now.client any_steps c.args.checked.now.no_fault c.in_ok-store.store.states (c.in_ok-store.ensures.states _)
