use Rattle.std.proofs.Common.{length}
use Rattle.tso_verdict.proofs.coverage.Coverage.+note_threads.Given as goal

abbrev pub decreases-note_threads : goal.decreases-note_threads
decreases-note_threads l = length l.threads.now
