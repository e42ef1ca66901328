use Rattle.tso_machine.proofs.RunLaws.{sections_are_guarded}
use Rattle.tso_machine.proofs.laws.sections_are_guarded.Goals as goal

pub returns : goal.returns
returns c = sections_are_guarded c.args.checked.now.client
