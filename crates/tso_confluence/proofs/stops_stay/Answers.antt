use Rattle.tso_confluence.proofs.Ground as lemmas
use Rattle.tso_confluence.proofs.stops_stay.Goals as goal

pub returns : goal.returns
returns c = lemmas.stops_stay c.args.checked.now.client c.args.checked.now.no_fault
