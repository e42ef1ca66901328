use Rattle.tso_confluence.proofs.Shrinking as lemmas
use Rattle.tso_confluence.proofs.futures_shrink.Goals as goal

pub returns : goal.returns
returns c = lemmas.futures_shrink c.args.checked.now.client
