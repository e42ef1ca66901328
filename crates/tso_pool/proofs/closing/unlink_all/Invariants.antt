use Rattle.tso_pool.proofs.Unlinks.{IsParting}
use Rattle.tso_pool.proofs.closing.unlink_all.Given as goal

abbrev pub invariant-loop-left : goal.invariant-loop-left
invariant-loop-left g l = IsParting l.initial.leaver l.leaver l.initial.seats l.seats l.left

abbrev pub decreases-loop-left : goal.decreases-loop-left
decreases-loop-left g l = l.left
