use Rattle.tso_machine.proofs.RunLaws.{ends_are_decided}
use Rattle.tso_machine.proofs.laws.ends_are_decided.Goals as goal

pub returns : goal.returns
returns c = ends_are_decided c.args.checked.now.client
