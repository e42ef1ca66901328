use Rattle.std.proofs.Common.{length}
use Rattle.tso_store.proofs.history_after.+feed_counts.Given as goal

abbrev pub decreases-feed_counts : goal.decreases-feed_counts
decreases-feed_counts g l = length l.threads.now
