use Rattle.tso_keys.proofs.orders.compare_keys.Goals as goal

pub returns-in-Equal : goal.returns-in-Equal
returns-in-Equal c = c.compare_fronts.ensures.left c.in-Equal.is c.compare_parts.result c.compare_parts.ensures.order
