-- Actors by their numbers, and as the model's.
use Rattle.std.specs.Prelude.{ℕ, ◌+◌, ◌*◌, Bool, true, false}
use Rattle.tso_model.specs.Steps as model
use Rattle.tso_state.specs.declared.actor.Actor.{Actor}
use Rattle.tso_state.specs.declared.actor.Actor.TheVariants.{Exec, Drain}

-- whose actor it is
abbrev pub thread_of : Actor → ℕ
thread_of (Exec i) = i
thread_of (Drain i) = i

abbrev pub is_drain : Actor → Bool
is_drain (Exec i) = false
is_drain (Drain i) = true

-- the number by which actors are ordered
abbrev pub number_of : Actor → ℕ
number_of (Exec i) = 2 * i
number_of (Drain i) = 2 * i + 1

abbrev pub actor_of : Actor → model.Actor
actor_of (Exec i) = model.Exec i
actor_of (Drain i) = model.Drains i
