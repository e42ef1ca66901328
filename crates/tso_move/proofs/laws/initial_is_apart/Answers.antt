use Rattle.tso_move.proofs.ApartLemmas as lemmas
use Rattle.tso_move.proofs.laws.initial_is_apart.Goals as goal

pub returns : goal.returns
returns c = lemmas.initial_is_apart c.args.checked.now.client
