use Rattle.tso_cells.proofs.inductive.foresees.Goals as goal

pub returns-then-has_own : goal.returns-then-has_own
returns-then-has_own c = (λ yes. record { own = c.has_own.ensures.0 c.if-has_own.true; successors = c.has_successors.ensures.0 yes }, λ is. c.has_successors.ensures.1 is.successors)
