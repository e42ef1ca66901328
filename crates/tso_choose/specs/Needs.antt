-- Which actors a chosen actor's step needs to be chosen with it, so that it has a reason for each other thread.
use Rattle.std.specs.Prelude.{◌≡◌, ℕ, ◌==◌, ◌&&◌, not, Bool, true, false, is_some, Option, Some, None}
use Rattle.tso_choose.specs.Sets.{has}
use Rattle.tso_compact.specs.Plans.{thread_in}
use Rattle.tso_compact.specs.declared.sort.StepKind.{StepKind}
use Rattle.tso_compact.specs.declared.sort.StepKind.TheVariants as kinds
use Rattle.tso_foot.specs.Ahead.{future_reads, future_writes}
use Rattle.tso_foot.specs.declared.table.Table.{Table}
use Rattle.tso_indep.specs.Reasons.{is_done, is_far, is_free, kind_in, place_of}
use Rattle.tso_prog.specs.declared.client.Client.{Client}
use Rattle.tso_state.specs.Actors.{thread_of}
use Rattle.tso_state.specs.declared.actor.Actor.{Actor}
use Rattle.tso_state.specs.declared.actor.Actor.TheVariants.{Exec, Drain}
use Rattle.tso_state.specs.declared.state.State.{State}

-- the actor has a step
abbrev pub is_enabled : Client → State → Actor → Bool
is_enabled c s a = is_some (kind_in c s a)

-- the set has the enabled actors
abbrev pub AreEnabled : Client → State → ℕ → Type 0
AreEnabled c s set = (a : Actor) → has set a ≡ is_enabled c s a

-- against thread j a step of this kind needs nobody: it is local or a return, or a call and j returns no more, or j's future is far from it
abbrev pub is_apart : Client → Table → State → StepKind → ℕ → Bool
is_apart c t s kinds.Local j = true
is_apart c t s kinds.Return j = true
is_apart c t s kinds.Call j = is_done c s j (thread_in s j).core
is_apart c t s kind j = is_far (future_reads c t s j) (future_writes c t s j) kind

-- against thread j it needs j's core alone, which has a step, since nothing in j's buffer is for its place
abbrev pub is_served : Client → State → StepKind → ℕ → Bool
is_served c s kind j = is_enabled c s (Exec j) && is_free (thread_in s j).buffer (place_of kind)

-- a step of this kind, where it needs some actor of b's thread, needs b
abbrev pub is_wanted : Client → State → StepKind → Actor → Bool
is_wanted c s kind (Exec j) = is_enabled c s (Exec j)
is_wanted c s kind (Drain j) = is_enabled c s (Drain j) && not (is_served c s kind j)

-- where these actors are enabled, the set has those of thread j's two actors that a step of this kind wants
abbrev pub AreWanted : State → StepKind → ℕ → ℕ → ℕ → Type 0
AreWanted s kind j enabled set = (c : Client) → AreEnabled c s enabled → (b : Actor) → has set b ≡ ((thread_of b == j) && is_wanted c s kind b)

-- a step of this kind, of thread i, needs b
abbrev pub is_needed : Client → Table → State → StepKind → ℕ → Actor → Bool
is_needed c t s kind i b = not (thread_of b == i) && (not (is_apart c t s kind (thread_of b)) && is_wanted c s kind b)

-- the same, if there is a step
abbrev pub is_needed_if : Client → Table → State → Option StepKind → ℕ → Actor → Bool
is_needed_if c t s None i b = false
is_needed_if c t s (Some kind) i b = is_needed c t s kind i b

-- the step of a, if it has one, needs b
abbrev pub needs : Client → Table → State → Actor → Actor → Bool
needs c t s a b = is_needed_if c t s (kind_in c s a) (thread_of a) b
