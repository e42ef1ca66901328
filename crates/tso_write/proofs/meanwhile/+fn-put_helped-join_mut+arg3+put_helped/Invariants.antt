use Rattle.tso_write.proofs.meanwhile.+fn-put_helped-join_mut+arg3+put_helped.Given as goal

abbrev pub decreases-join_mut+arg3 : goal.decreases-join_mut+arg3
decreases-join_mut+arg3 g l = l.fewer

abbrev pub decreases-put_helped : goal.decreases-put_helped
decreases-put_helped g l = l.helpers
