use Rattle.tso_write.proofs.writing.+list_slabs.Given as goal

abbrev pub decreases-list_slabs : goal.decreases-list_slabs
decreases-list_slabs g l = l.halvings
