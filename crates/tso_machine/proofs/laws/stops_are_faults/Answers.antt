use Rattle.tso_machine.proofs.RunLaws.{stops_are_faults}
use Rattle.tso_machine.proofs.laws.stops_are_faults.Goals as goal

pub returns : goal.returns
returns c = stops_are_faults c.args.checked.now.client
