use Rattle.tso_confluence.proofs.Staying as lemmas
use Rattle.tso_confluence.proofs.free_stays_free.Goals as goal

pub returns : goal.returns
returns c = lemmas.free_stays_free c.args.checked.now.client
