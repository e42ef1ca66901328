use Rattle.std.proofs.Common.{length}
use Rattle.tso_fences.proofs.lines.+put_all_behind.Given as goal

abbrev pub decreases-put_all_behind : goal.decreases-put_all_behind
decreases-put_all_behind l = length l.numbers.now
