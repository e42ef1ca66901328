use Rattle.tso_judge.proofs.whole.Whole.are_followed.Goals as goal

pub returns-in-Steps : goal.returns-in-Steps
returns-in-Steps c = rw c.in-Steps.is (rw c.as_slice.ensures at c.are_kept_after.ensures)

pub returns-in-Crossings : goal.returns-in-Crossings
returns-in-Crossings c = rw c.in-Crossings.is c.are_moves_met.ensures
