use Rattle.std.proofs.Common.{length}
use Rattle.tso_keys.proofs.orders.+compare_rows.Given as goal

abbrev pub decreases-compare_rows : goal.decreases-compare_rows
decreases-compare_rows l = length l.a.now
