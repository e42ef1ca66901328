use Rattle.tso_client.proofs.Written.{writes_are_all}
use Rattle.tso_client.proofs.accesses.writes_are_all.Goals as goal

pub returns : goal.returns
returns c = writes_are_all c.args.client.now
