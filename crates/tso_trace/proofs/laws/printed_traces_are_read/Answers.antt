use Rattle.tso_trace.proofs.LawLemmas.{reads_back}
use Rattle.tso_trace.proofs.laws.printed_traces_are_read.Goals as goal

pub returns : goal.returns
returns c = reads_back c.args.client.now
