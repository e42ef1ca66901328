use Rattle.tso_scan.proofs.HalfLemmas.{forks_shape}
use Rattle.tso_scan.proofs.halves.fork_shape.Goals as goal

pub returns : goal.returns
returns c = forks_shape c.in_ok-left.left c.in_ok-right.right c.args.left c.args.right c.in_ok-left.ensures.ok c.in_ok-right.ensures.ok
