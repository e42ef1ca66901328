use Rattle.tso_store.proofs.lone.run_at.Goals as goal

pub returns : goal.returns
returns c = rw c.procedure_at-procedure.ensures at c.run_of.ensures
