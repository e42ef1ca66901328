use Rattle.tso_explore.proofs.closing.AskedTask.run.Goals as goal

pub returns : goal.returns
returns c = c.are_worked_between.ensures
