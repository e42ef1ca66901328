use Rattle.tso_search.proofs.WayLemmas.{only_memory}
use Rattle.tso_search.proofs.way.trace_to.Goals as goal

pub unreachable-requires : goal.unreachable-requires
unreachable-requires c = c.in_default.not-Memory (only_memory c.args.checked.now.client c.in_ok-labels.labels.items c.in-Err.fault c.in_ok-labels.ensures c.in-Err.ensures.refused)
