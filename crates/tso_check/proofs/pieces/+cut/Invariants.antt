use Rattle.tso_check.proofs.pieces.+cut.Given as goal

abbrev pub decreases-cut : goal.decreases-cut
decreases-cut g l = l.halvings
