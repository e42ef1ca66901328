use Rattle.tso_keys.proofs.orders.compare_with.Goals as goal

pub returns-in-Equal-clause-order : goal.returns-in-Equal-clause-order
returns-in-Equal-clause-order c = c.compare_fronts.ensures.left c.in-Equal.is c.compare.result (rw c.requires.histories at c.compare.ensures.order)
