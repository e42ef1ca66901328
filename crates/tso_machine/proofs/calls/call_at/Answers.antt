use Rattle.tso_machine.proofs.CallLists.{call_at}
use Rattle.tso_machine.proofs.calls.call_at.Goals as goal

pub returns-clause-call : goal.returns-clause-call
returns-clause-call c = rw c.call_in.ensures.call (call_at c.args.client.now.threads c.args.client.now.prologue c.args.thread c.args.number)
