use Rattle.std.proofs.Common.{length}
use Rattle.tso_write.proofs.spelling.+put_tree.Given as goal

abbrev pub decreases-put_tree : goal.decreases-put_tree
decreases-put_tree l = length l.numbers.now
