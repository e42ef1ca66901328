use Rattle.std.proofs.Common.{length}
use Rattle.tso_store.proofs.history_after.+are_counts.Given as goal

abbrev pub decreases-are_counts : goal.decreases-are_counts
decreases-are_counts l = length l.threads.now
