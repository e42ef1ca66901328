use Rattle.tso_search.proofs.GoodLemmas.{good_if}
use Rattle.tso_search.proofs.ending.is_good.Goals as goal

pub returns-clause-good : goal.returns-clause-good
returns-clause-good c = good_if c.args.checked.now.client c.args.state.now _ c.has_order.result (c.has_no_stopped.ensures.0 c.if-not-has_no_stopped.false) c.has_order.ensures
