use Rattle.std.proofs.Common.{length}
use Rattle.tso_write.proofs.cutting.+tree_of.Given as goal

abbrev pub decreases-tree_of : goal.decreases-tree_of
decreases-tree_of l = length l.numbers.now
