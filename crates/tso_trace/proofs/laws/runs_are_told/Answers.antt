use Rattle.tso_trace.proofs.LawLemmas as laws
use Rattle.tso_trace.proofs.laws.runs_are_told.Goals as goal

pub returns : goal.returns
returns c = laws.runs_are_told c.args.client.now
