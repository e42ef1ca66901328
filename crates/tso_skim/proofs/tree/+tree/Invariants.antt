use Rattle.std.proofs.Common.{◌+◌, ◌*◌}
use Rattle.tso_skim.proofs.tree.+tree.Given as goal

abbrev pub decreases-skip_tree : goal.decreases-skip_tree
decreases-skip_tree l = 2 * l.depth

abbrev pub decreases-skip_fork : goal.decreases-skip_fork
decreases-skip_fork l = 2 * l.depth + 1
