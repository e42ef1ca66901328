-- The order of actors.
use Rattle.std.specs.Prelude.{◌≡◌}
use Rattle.std.specs.Ordering.{nat_cmp}
use Rattle.tso_state.specs.Actors.{number_of}
use Rattle.tso_state.specs.declared.actor.Actor.{Actor}
use Rattle.tso_state.specs.contracts.actor.ActorOrd.TheImpl as actor_impl

-- they are ordered as their numbers are
abbrev pub ActorsAreOrderedByNumber : Type 0
ActorsAreOrderedByNumber = (a b : Actor) → actor_impl.cmp-value.it a b ≡ nat_cmp (number_of a) (number_of b)
