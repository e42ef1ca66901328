use Rattle.tso_write.proofs.cutting.order_of.Goals as goal

pub unreachable-requires : goal.unreachable-requires
unreachable-requires c = (rw (c.in-None.is, c.history.ensures) at c.in_ok-order.ensures.none) (c.requires.explained c.requires.over)

pub returns : goal.returns
returns c = λ g. (c.requires.over, rw (c.in-Some.is, c.history.ensures) at c.in_ok-order.ensures.found)
