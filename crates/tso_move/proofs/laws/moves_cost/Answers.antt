use Rattle.tso_move.proofs.CostLemmas as lemmas
use Rattle.tso_move.proofs.laws.moves_cost.Goals as goal

pub returns : goal.returns
returns c = lemmas.moves_cost c.args.checked.now.client
