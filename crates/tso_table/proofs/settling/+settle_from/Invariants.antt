use Rattle.std.proofs.Common.{length}
use Rattle.tso_table.proofs.settling.+settle_from.Given as goal

abbrev pub decreases-settle_from : goal.decreases-settle_from
decreases-settle_from g l = length l.rests.now
