use Rattle.tsoq.proofs.verify.write_worked.Goals as goal

pub returns-in_default-clause-taken : goal.returns-in_default-clause-taken
returns-in_default-clause-taken g c = record { tree = c.has_tree.ensures.tree; made = c.has_tree.ensures.made; taken = tt }

pub returns-clause-taken : goal.returns-clause-taken
returns-clause-taken g c = record { tree = c.in_ok-taken.ensures.tree; made = c.in_ok-taken.ensures.made; taken = c.in_ok-taken.ensures.with_table }
