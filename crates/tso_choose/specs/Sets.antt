-- Sets of actors as masks: bit 2i stands for the core of thread i, bit 2i + 1 for its buffer.
use Rattle.std.specs.Prelude.{◌≡◌, ℕ, ◌/◌, ◌%◌, ◌==◌, if◌then◌else◌, Bool}
use Rattle.tso_choose.specs.Closures.{has_bit}
use Rattle.tso_indep.specs.Reasons.{is_actor}
use Rattle.tso_state.specs.Actors.{number_of}
use Rattle.tso_state.specs.declared.actor.Actor.{Actor}
use Rattle.tso_state.specs.declared.actor.Actor.TheVariants.{Exec, Drain}

-- the actor with this number
abbrev pub actor_at : ℕ → Actor
actor_at n = if n % 2 == 0 then Exec (n / 2) else Drain (n / 2)

-- the set has the actor
abbrev pub has : ℕ → Actor → Bool
has set a = has_bit set (number_of a)

-- it has this actor alone
abbrev pub IsOnly : ℕ → Actor → Type 0
IsOnly set a = (b : Actor) → has set b ≡ is_actor a b
