use Rattle.tso_explore.proofs.grounds.steps_of.Goals as goal

pub returns-clause-closed : goal.returns-clause-closed
returns-clause-closed c = record { closed = c.in_ok-table.ensures.closed; fits = tt; own = tt }
