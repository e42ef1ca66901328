use Rattle.tso_cells.proofs.TableLemmas.{inductive_is_closed}
use Rattle.tso_cells.proofs.laws.inductive_is_closed.Goals as goal

pub returns : goal.returns
returns c = inductive_is_closed c.args.checked.now.client
