use Rattle.tso_explore.proofs.grounds.crossings_of.Goals as goal

pub returns-in-Ok-clause-closed : goal.returns-in-Ok-clause-closed
returns-in-Ok-clause-closed c = c.in_ok-table.ensures c.in-Ok.own c.in-Ok.ensures
