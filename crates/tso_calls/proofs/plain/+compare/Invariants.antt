use Rattle.tso_calls.proofs.plain.+compare.Given as goal

abbrev pub decreases-compare : goal.decreases-compare
decreases-compare l = l.events_left
