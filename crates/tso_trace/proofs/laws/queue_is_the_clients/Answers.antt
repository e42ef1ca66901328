use Rattle.tso_trace.proofs.LawLemmas as laws
use Rattle.tso_trace.proofs.laws.queue_is_the_clients.Goals as goal

pub returns : goal.returns
returns c = laws.queue_is_the_clients c.args.client.now
