use Rattle.std.proofs.Common.{arith}
use Rattle.tso_cert.proofs.Opening.{opens_leaf, opens_fork}
use Rattle.tso_skim.proofs.tree.+tree.Goals as goal

pub skip_tree-returns-in-0 : goal.skip_tree-returns-in-0
skip_tree-returns-in-0 t c = rw (opens_leaf c.args.grain c.args.depth c.args.room c.args.bytes.now (omega arith) (omega arith)) c.skip_leaf.ensures

pub skip_tree-returns-else-depth-eq0 : goal.skip_tree-returns-else-depth-eq0
skip_tree-returns-else-depth-eq0 t c = rw (opens_fork c.args.grain c.args.depth c.args.room c.args.bytes.now (omega arith) (omega arith) c.if-depth-eq0.false) c.skip_fork.ensures
