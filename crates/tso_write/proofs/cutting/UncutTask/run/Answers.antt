use Rattle.tso_write.proofs.cutting.UncutTask.run.Goals as goal

pub returns : goal.returns
returns c = c.cut.ensures
