use Rattle.tso_machine.proofs.RunLaws.{stops_are_final}
use Rattle.tso_machine.proofs.laws.stops_are_final.Goals as goal

pub returns : goal.returns
returns c = stops_are_final c.args.checked.now.client
