use Rattle.tso_flow.proofs.Sound.{stays_within, has_bounds, reads_written}
use Rattle.tso_flow.proofs.flow.Checked.flow_is_sound.Goals as goal

pub returns-clause-within : goal.returns-clause-within
returns-clause-within c = stays_within c.args.self.now.client c.args.kind c.args.self.now.no_fault

pub returns-clause-bounds : goal.returns-clause-bounds
returns-clause-bounds c = has_bounds c.args.self.now.client c.args.kind c.args.self.now.no_fault

pub returns-clause-written : goal.returns-clause-written
returns-clause-written c = reads_written c.args.self.now.client c.args.kind c.args.self.now.no_fault
