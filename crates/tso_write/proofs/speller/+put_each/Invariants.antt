use Rattle.std.proofs.Common.{length}
use Rattle.tso_write.proofs.speller.+put_each.Given as goal

abbrev pub decreases-put_each : goal.decreases-put_each
decreases-put_each l = length l.numbers.now
