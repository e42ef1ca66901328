use Rattle.tso_judge.proofs.whole.Whole.are_successors_kept.Goals as goal

pub returns-in-Choices : goal.returns-in-Choices
returns-in-Choices c = rw c.in-Choices.is c.are_followed.ensures
