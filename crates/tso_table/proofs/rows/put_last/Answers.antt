use Rattle.tso_table.proofs.StateLemmas.{came}
use Rattle.tso_table.proofs.rows.put_last.Goals as goal

pub returns-in-Ok-clause-place : goal.returns-in-Ok-clause-place
returns-in-Ok-clause-place c = (came c.args.store.now.states c.add.new.self.states c.args.kept.now.state c.in-Ok.added c.in-Ok.ensures.added c.requires c.states_differ.ensures).1

pub returns-in-Ok-clause-states : goal.returns-in-Ok-clause-states
returns-in-Ok-clause-states c = (came c.args.store.now.states c.add.new.self.states c.args.kept.now.state c.in-Ok.added c.in-Ok.ensures.added c.requires c.states_differ.ensures).0
