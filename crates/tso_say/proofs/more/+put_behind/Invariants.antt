use Rattle.tso_say.proofs.more.+put_behind.Given as goal

abbrev pub decreases-put_behind : goal.decreases-put_behind
decreases-put_behind l = l.most
