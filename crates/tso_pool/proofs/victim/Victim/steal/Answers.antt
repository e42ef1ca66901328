use Rattle.tso_pool.proofs.Kept.{takes}
use Rattle.tso_pool.proofs.victim.Victim.steal.Goals as goal

pub steal_as-requires-clause-takes : goal.steal_as-requires-clause-takes
steal_as-requires-clause-takes g c = takes _ _ 1 c.args.self.now.part
