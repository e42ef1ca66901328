use Rattle.std.proofs.Common.{length}
use Rattle.tso_calls.proofs.machine.+walk.Given as goal

abbrev pub decreases-walk : goal.decreases-walk
decreases-walk l = length l.labels.now
