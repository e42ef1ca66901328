use Rattle.tso_machine.proofs.RunLaws.{sizes_stay}
use Rattle.tso_machine.proofs.laws.sizes_stay.Goals as goal

pub returns : goal.returns
returns c = sizes_stay c.args.checked.now.client
