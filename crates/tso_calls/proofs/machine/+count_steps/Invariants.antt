use Rattle.std.proofs.Common.{length}
use Rattle.tso_calls.proofs.machine.+count_steps.Given as goal

abbrev pub decreases-count_steps : goal.decreases-count_steps
decreases-count_steps l = length l.labels.now
