use Rattle.tso_scan.proofs.NeighbourLemmas.{rising_differ}
use Rattle.tso_scan.proofs.whole.whole_of.Goals as goal

pub finish-requires-clause-numbered : goal.finish-requires-clause-numbered
finish-requires-clause-numbered c = rising_differ c.args.half.states.states (c.requires c.if-not-half.false)
