use Rattle.tso_show.proofs.Readings.{read_fault, spells_good}
use Rattle.tso_show.proofs.replayed.good_run.Goals as goal

pub returns-in-Ok-clause-ok : goal.returns-in-Ok-clause-ok
returns-in-Ok-clause-ok c = spells_good c.args.client.now c.args.text.now _ c.requires c.in-Ok.ensures.ok

pub returns-in-Err-clause-refused : goal.returns-in-Err-clause-refused
returns-in-Err-clause-refused c = read_fault c.args.client.now c.args.text.now _ c.in-Err.ensures.refused
