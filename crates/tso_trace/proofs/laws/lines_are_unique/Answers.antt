use Rattle.tso_trace.proofs.LawLemmas as laws
use Rattle.tso_trace.proofs.laws.lines_are_unique.Goals as goal

pub returns : goal.returns
returns c = laws.lines_are_unique c.args.client.now
