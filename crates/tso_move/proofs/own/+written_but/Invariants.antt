use Rattle.std.proofs.Common.{length}
use Rattle.tso_move.proofs.own.+written_but.Given as goal

abbrev pub decreases-written_but : goal.decreases-written_but
decreases-written_but l = length l.threads.now
