use Rattle.tso_scan.proofs.seams.+forks_before.Given as goal

abbrev pub decreases-forks_before : goal.decreases-forks_before
decreases-forks_before l = l.most
