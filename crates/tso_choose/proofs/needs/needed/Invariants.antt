use Rattle.std.proofs.Common.{◌≡◌, ◌&&◌, nat_lt}
use Rattle.tso_choose.specs.Needs.{is_needed}
use Rattle.tso_choose.specs.Sets.{has}
use Rattle.tso_state.specs.Actors.{thread_of}
use Rattle.tso_state.specs.declared.actor.Actor.{Actor}
use Rattle.tso_choose.proofs.needs.needed.Given as goal

abbrev pub invariant-loop-other : goal.invariant-loop-other
invariant-loop-other g l = (b : Actor) → has l.set b ≡ (nat_lt (thread_of b) l.other && is_needed l.checked.client l.table (g.S.Viewed.state l.state) l.kind l.own b)
