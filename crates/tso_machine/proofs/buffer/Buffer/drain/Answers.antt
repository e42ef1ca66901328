use Rattle.tso_machine.proofs.QueueLemmas.{drained_is}
use Rattle.tso_machine.proofs.buffer.Buffer.drain.Goals as goal

pub returns : goal.returns
returns c = rw (← c.self.view_is) (drained_is c.self.inside.drained c.self.inside.entries.items)
