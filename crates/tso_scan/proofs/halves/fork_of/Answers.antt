use Rattle.std.proofs.Common.{refl}
use Rattle.tso_scan.proofs.halves.fork_of.Goals as goal

pub returns : goal.returns
returns c = record { ends = c.in_ok-ends.ensures; shape = c.in_ok-shape.ensures; room_is = refl; behind = refl }
