use Rattle.tso_regions.proofs.team.+fn-work_by-join+arg3+work_by.Given as goal

abbrev pub decreases-work_by : goal.decreases-work_by
decreases-work_by g l = l.workers

abbrev pub decreases-join+arg3 : goal.decreases-join+arg3
decreases-join+arg3 g l = l.fewer
