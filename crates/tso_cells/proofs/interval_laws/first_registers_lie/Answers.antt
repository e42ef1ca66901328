use Rattle.tso_cells.proofs.Starting.{first_lie}
use Rattle.tso_cells.proofs.interval_laws.first_registers_lie.Goals as goal

pub returns : goal.returns
returns c = first_lie
