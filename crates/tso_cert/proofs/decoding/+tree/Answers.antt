use Rattle.std.proofs.Common.{arith}
use Rattle.tso_cert.proofs.Opening.{opens_leaf, opens_fork}
use Rattle.tso_cert.proofs.decoding.+tree.Goals as goal

pub branch_of-returns-in-0-clause-read : goal.branch_of-returns-in-0-clause-read
branch_of-returns-in-0-clause-read t c = rw (opens_leaf c.args.grain c.args.depth c.args.room c.args.bytes.now (omega arith) (omega arith)) c.leaf_of.ensures.read

pub branch_of-returns-else-depth-eq0-clause-read : goal.branch_of-returns-else-depth-eq0-clause-read
branch_of-returns-else-depth-eq0-clause-read t c = rw (opens_fork c.args.grain c.args.depth c.args.room c.args.bytes.now (omega arith) (omega arith) c.if-depth-eq0.false) c.fork_of.ensures
