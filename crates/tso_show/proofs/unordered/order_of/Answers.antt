use Rattle.tso_show.proofs.Runs.{no_order, order_serves}
use Rattle.tso_trace.proofs.GoodLemmas.{when_none, when_some}
use Rattle.tso_show.proofs.unordered.order_of.Goals as goal

pub returns-in-Some-clause-found : goal.returns-in-Some-clause-found
returns-in-Some-clause-found c =
    order_serves c.args.client.now c.args.labels.now c.requires _ c.in_ok-history.ensures _ c.from.ensures _ (when_some _ _ _ c.in-Some.is c.in_ok-order.ensures.found)

pub returns-clause-none : goal.returns-clause-none
returns-clause-none c = no_order c.args.client.now c.args.labels.now c.requires _ c.in_ok-history.ensures _ c.from.ensures (when_none _ _ c.in-None.is c.in_ok-order.ensures.none)
