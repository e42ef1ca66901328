use Rattle.tso_machine.proofs.RunLaws.{runs_are_short}
use Rattle.tso_machine.proofs.laws.runs_are_short.Goals as goal

pub returns : goal.returns
returns c = runs_are_short c.args.checked.now.client
