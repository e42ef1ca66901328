use Rattle.tso_confluence.proofs.Leading as lemmas
use Rattle.tso_confluence.proofs.free_moves_lead.Goals as goal

pub returns : goal.returns
returns c = lemmas.free_moves_lead c.args.checked.now.client c.args.checked.now.no_fault
