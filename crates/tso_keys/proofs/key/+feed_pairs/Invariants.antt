use Rattle.std.proofs.Common.{length}
use Rattle.tso_keys.proofs.key.+feed_pairs.Given as goal

abbrev pub decreases-feed_pairs : goal.decreases-feed_pairs
decreases-feed_pairs g l = length l.numbers.now
