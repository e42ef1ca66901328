use Rattle.tso_print.proofs.Denoted.{reads_back}
use Rattle.tso_print.proofs.laws.printed_is_read_back.Goals as goal

pub returns : goal.returns
returns c = reads_back
