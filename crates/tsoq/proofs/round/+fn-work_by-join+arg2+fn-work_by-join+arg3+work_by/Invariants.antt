use Rattle.tsoq.proofs.round.+fn-work_by-join+arg2+fn-work_by-join+arg3+work_by.Given as goal

abbrev pub decreases-work_by : goal.decreases-work_by
decreases-work_by g l = l.workers

abbrev pub decreases-join+arg2 : goal.decreases-join+arg2
decreases-join+arg2 g l = l.more

abbrev pub decreases-join+arg3 : goal.decreases-join+arg3
decreases-join+arg3 g l = l.fewer
