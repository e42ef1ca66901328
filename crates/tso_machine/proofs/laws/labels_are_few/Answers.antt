use Rattle.tso_machine.proofs.RunLaws.{labels_are_few}
use Rattle.tso_machine.proofs.laws.labels_are_few.Goals as goal

pub returns : goal.returns
returns c = labels_are_few c.args.checked.now.client
