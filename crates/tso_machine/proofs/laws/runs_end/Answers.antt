use Rattle.tso_machine.proofs.RunLaws.{runs_end}
use Rattle.tso_machine.proofs.laws.runs_end.Goals as goal

pub returns : goal.returns
returns c = runs_end c.args.checked.now.client
