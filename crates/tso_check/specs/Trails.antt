-- Where the states after steps are looked for first. Nothing here need be believed: it serves the code.
use Rattle.std.specs.Prelude.{ℕ, ◌+◌, min, slice_index_or, slice_set}
use Rattle.tso_check.specs.declared.trail.Trail.{Trail}
use Rattle.tso_state.specs.declared.actor.Actor.{Actor}
use Rattle.tso_state.specs.declared.actor.Actor.TheVariants.{Exec, Drain}

-- where the state after the actor's next step is looked for
abbrev pub next_of : Trail → Actor → ℕ
next_of t (Exec i) = slice_index_or t.cores i 0
next_of t (Drain i) = slice_index_or t.buffers i 0

-- the number behind this one, as far as there are numbers
abbrev pub behind : ℕ → ℕ
behind n = min (n + 1) 4294967295

-- the state after a step of the actor had number n
abbrev pub followed : Trail → Actor → ℕ → Trail
followed t (Exec i) n = record { cores = slice_set t.cores i (behind n); buffers = t.buffers }
followed t (Drain i) n = record { cores = t.cores; buffers = slice_set t.buffers i (behind n) }
