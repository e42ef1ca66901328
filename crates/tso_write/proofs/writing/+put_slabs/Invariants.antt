use Rattle.tso_write.proofs.writing.+put_slabs.Given as goal

abbrev pub decreases-put_slabs : goal.decreases-put_slabs
decreases-put_slabs g l = l.halvings
