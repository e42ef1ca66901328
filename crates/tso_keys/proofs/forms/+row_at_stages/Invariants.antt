use Rattle.std.proofs.Common.{length}
use Rattle.tso_keys.proofs.forms.+row_at_stages.Given as goal

abbrev pub decreases-row_at_stages : goal.decreases-row_at_stages
decreases-row_at_stages l = length l.row.now
