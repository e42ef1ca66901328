use Rattle.tso_table.proofs.SoundLemmas.{few_open}
use Rattle.tso_table.proofs.table.Table.outstanding.Goals as goal

pub returns-clause-small : goal.returns-clause-small
returns-clause-small c = rw (← c.self.view_is) (few_open c.self.invariant.1)
