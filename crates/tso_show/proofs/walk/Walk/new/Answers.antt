use Rattle.std.proofs.Common.{zero-le}
use Rattle.tso_show.proofs.walk.Walk.new.Goals as goal

pub returns-clause-run : goal.returns-clause-run
returns-clause-run c = record { run = c.in_ok-machine.ensures }

pub invariant_of-result : goal.invariant_of-result
invariant_of-result c = record { within = zero-le; leads = record { run = c.in_ok-machine.ensures } }
