use Rattle.std.proofs.Common.{◌*◌, ◌+◌}
use Rattle.tso_scan.proofs.trees.+tree.Given as goal

abbrev pub decreases-branch_of : goal.decreases-branch_of
decreases-branch_of l = 2 * l.depth

abbrev pub decreases-fork_of : goal.decreases-fork_of
decreases-fork_of l = 2 * l.depth + 1
