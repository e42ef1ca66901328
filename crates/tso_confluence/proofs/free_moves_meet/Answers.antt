use Rattle.tso_confluence.proofs.Meeting as lemmas
use Rattle.tso_confluence.proofs.free_moves_meet.Goals as goal

pub returns : goal.returns
returns c = lemmas.free_moves_meet c.args.checked.now.client
