use Rattle.tso_check.proofs.threads.+fn-judge_by-join+arg3+judge_by.Given as goal

abbrev pub decreases-join+arg3 : goal.decreases-join+arg3
decreases-join+arg3 g l = l.fewer

abbrev pub decreases-judge_by : goal.decreases-judge_by
decreases-judge_by g l = l.workers
