use Rattle.tso_machine.proofs.Cuts.{cuts_are_bounds}
use Rattle.tso_machine.proofs.laws.cuts_are_bounds.Goals as goal

pub returns : goal.returns
returns c = cuts_are_bounds c.args.checked.now.client c.args.checked.now.no_fault
