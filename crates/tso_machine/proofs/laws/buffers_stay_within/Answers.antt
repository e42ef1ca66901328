use Rattle.tso_machine.proofs.RunLaws.{buffers_stay_within}
use Rattle.tso_machine.proofs.laws.buffers_stay_within.Goals as goal

pub returns : goal.returns
returns c = buffers_stay_within c.args.checked.now.client
