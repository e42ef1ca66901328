use Rattle.tso_client.proofs.Agreeing.{reads_are_all}
use Rattle.tso_client.proofs.accesses.reads_are_all.Goals as goal

pub returns : goal.returns
returns c = reads_are_all c.args.client.now
