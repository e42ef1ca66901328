use Rattle.tso_cells.proofs.Lying.{next_hands}
use Rattle.tso_cells.proofs.interval_laws.registers_stay_within.Goals as goal

pub returns : goal.returns
returns c = next_hands
