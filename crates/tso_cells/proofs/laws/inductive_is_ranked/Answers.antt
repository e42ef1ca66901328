use Rattle.tso_cells.proofs.TableLemmas.{inductive_is_ranked}
use Rattle.tso_cells.proofs.laws.inductive_is_ranked.Goals as goal

pub returns : goal.returns
returns c = inductive_is_ranked c.args.checked.now.client
