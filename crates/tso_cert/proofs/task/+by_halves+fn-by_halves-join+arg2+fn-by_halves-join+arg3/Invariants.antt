use Rattle.tso_cert.proofs.task.+by_halves+fn-by_halves-join+arg2+fn-by_halves-join+arg3.Given as goal

abbrev pub decreases-by_halves : goal.decreases-by_halves
decreases-by_halves g l = l.workers

abbrev pub decreases-join+arg2 : goal.decreases-join+arg2
decreases-join+arg2 g l = l.more

abbrev pub decreases-join+arg3 : goal.decreases-join+arg3
decreases-join+arg3 g l = l.fewer
