use Rattle.tso_calls.proofs.plain.+has_order.Given as goal

abbrev pub decreases-has_order : goal.decreases-has_order
decreases-has_order l = l.depth
