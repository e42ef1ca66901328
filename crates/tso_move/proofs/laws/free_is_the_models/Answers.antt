use Rattle.tso_move.proofs.FreeLemmas as lemmas
use Rattle.tso_move.proofs.laws.free_is_the_models.Goals as goal

pub returns : goal.returns
returns c = lemmas.free_is_the_models c.args.checked.now.client
