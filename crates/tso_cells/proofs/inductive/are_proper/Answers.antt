use Rattle.std.proofs.Common.{rules}
use Rattle.std.proofs.iter.runs.Made.{chains}
use Rattle.tso_cells.proofs.inductive.are_proper.Goals as goal

pub returns : goal.returns
returns c = search (rules, chains)
