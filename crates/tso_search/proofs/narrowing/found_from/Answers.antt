use Rattle.std.proofs.Common.{arith}
use Rattle.tso_search.proofs.StartLemmas.{hunting_first, when_true}
use Rattle.tso_search.proofs.narrowing.found_from.Goals as goal

pub search_within-requires-clause-hunting : goal.search_within-requires-clause-hunting
search_within-requires-clause-hunting c =
    hunting_first c.args.checked.now.client c.args.ground.now c.args.checked.now.no_fault 4194304 c.args.store.now.states c.args.origins.now.items c.requires.started c.requires.none
    (when_true _ _ _ c.in_ok-is_first_good.ensures c.if-not-branch.false) (omega arith)
