use Rattle.std.proofs.Common.{length}
use Rattle.tso_move.proofs.own.+written_by.Given as goal

abbrev pub decreases-written_by : goal.decreases-written_by
decreases-written_by l = length l.threads.now
