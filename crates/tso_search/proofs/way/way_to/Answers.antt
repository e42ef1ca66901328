use Rattle.std.proofs.Common.{arith}
use Rattle.tso_search.proofs.WayLemmas.{one_back}
use Rattle.tso_search.proofs.way.way_to.Goals as goal
use Rattle.tso_state.specs.declared.actor.Actor.TheVariants.{Exec}

pub loop-at-preserved : goal.loop-at-preserved
loop-at-preserved c =
    one_back c.args.origins.now c.args.number c.loop-at.way.items c.push.new.self.items c.loop-at.at (record { from = 0; actor = Exec 0 }) c.requires.earlier c.loop-at.invariant (omega arith) c.in_ok-push.ensures.items
