-- Chosen actors with their reasons.
use Rattle.std.specs.Prelude.{◌≡◌, ◌≢◌, ℕ, zero, suc, ◌+◌, ◌*◌, ◌<◌, ◌==◌, ◌++◌, if◌then◌else◌, IsTrue, List, [], ◌∷◌, length, map, Option, None, Some, slice_get}
use Rattle.tso_choose.specs.Choosing.{IsChoice}
use Rattle.tso_choose.specs.Closures.{has_bit}
use Rattle.tso_choose.specs.Needs.{is_enabled}
use Rattle.tso_choose.specs.Sets.{actor_at}
use Rattle.tso_choose.specs.declared.choice.Choice.{Choice}
use Rattle.tso_foot.specs.declared.table.Table.{Table}
use Rattle.tso_compact.specs.declared.sort.StepKind.{StepKind}
use Rattle.tso_indep.specs.Reasons.{holds, is_reason, kind_in}
use Rattle.tso_indep.specs.declared.reason.Reason.{Reason}
use Rattle.tso_indep.specs.declared.reason.Reason.TheVariants as reasons
use Rattle.tso_prog.specs.declared.client.Client.{Client}
use Rattle.tso_state.specs.Actors.{number_of, thread_of}
use Rattle.tso_state.specs.declared.actor.Actor.{Actor}
use Rattle.tso_state.specs.declared.state.State.{State}

-- ---- valid reasons and choices

-- the reason for thread j stands at this position of a list of one reason for each other thread than i, in rising order
abbrev pub position_of : ℕ → ℕ → ℕ
position_of i zero = zero
position_of zero (suc j) = j
position_of (suc i) (suc j) = suc (position_of i j)

-- one reason for each other thread than that of the chosen actor a, in rising order, each of which holds
pub record AreReasons (c : Client) (t : Table) (s : State) (chosen : List Actor) (a : Actor) (given : List Reason) : Type 0 where
  pub count : length given + 1 ≡ length s.threads
  pub each : (j : ℕ) (reason : Reason) → j < length s.threads → j ≢ thread_of a → slice_get given (position_of (thread_of a) j) ≡ Some reason → IsTrue (holds c t s chosen a j reason)

abbrev pub actors_of : List Choice → List Actor
actors_of choices = map (λ (x : Choice). x.actor) choices

-- each actor's number is above that before
abbrev pub IsRising : List Actor → Type 0
IsRising actors = (n : ℕ) (a b : Actor) → slice_get actors n ≡ Some a → slice_get actors (n + 1) ≡ Some b → number_of a < number_of b

-- enabled actors in rising order, some where an actor is enabled, each with a reason for each other thread that holds
pub record AreValid (c : Client) (t : Table) (s : State) (choices : List Choice) : Type 0 where
  pub rising : IsRising (actors_of choices)
  pub enabled : (n : ℕ) (x : Choice) → slice_get choices n ≡ Some x → IsTrue (is_enabled c s x.actor)
  pub reasons : (n : ℕ) (x : Choice) → slice_get choices n ≡ Some x → AreReasons c t s (actors_of choices) x.actor x.reasons
  pub some : (a : Actor) → IsTrue (is_enabled c s a) → 0 < length choices

-- ---- the choices that are made

-- the actors of a set whose numbers are below n, in rising order
abbrev pub actors_below : ℕ → ℕ → List Actor
actors_below set zero = []
actors_below set (suc n) = if has_bit set n then actors_below set n ++ actor_at n ∷ [] else actors_below set n

-- the reason that is given for a step of this kind and thread j: of a return that it is one, of any other step the lowest that holds; the last
-- where none of the others does
abbrev pub reason_for : Client → Table → State → List Actor → StepKind → ℕ → Reason
reason_for c t s chosen kind j = if is_reason c t s chosen kind j reasons.Return then reasons.Return else
    if is_reason c t s chosen kind j reasons.Own then reasons.Own else
    if is_reason c t s chosen kind j reasons.Far then reasons.Far else
    if is_reason c t s chosen kind j reasons.Inside then reasons.Inside else
    if is_reason c t s chosen kind j reasons.Buffer then reasons.Buffer else reasons.NoReturn

-- the reasons of a step of thread i for each other thread below n
abbrev pub reasons_below : Client → Table → State → List Actor → StepKind → ℕ → ℕ → List Reason
reasons_below c t s chosen kind i zero = []
reasons_below c t s chosen kind i (suc j) =
    if j == i then reasons_below c t s chosen kind i j else reasons_below c t s chosen kind i j ++ reason_for c t s chosen kind j ∷ []

-- for each other thread
abbrev pub reasons_for : Client → Table → State → List Actor → StepKind → ℕ → List Reason
reasons_for c t s chosen kind i = reasons_below c t s chosen kind i (length s.threads)

-- for each other thread, if there is a step
abbrev pub reasons_if : Client → Table → State → List Actor → ℕ → Option StepKind → List Reason
reasons_if c t s chosen i None = []
reasons_if c t s chosen i (Some kind) = reasons_for c t s chosen kind i

-- a chosen actor with its reasons
abbrev pub choice_of : Client → Table → State → List Actor → Actor → Choice
choice_of c t s chosen a = record { actor = a; reasons = reasons_if c t s chosen (thread_of a) (kind_in c s a) }

-- the actors of a set, each with its reason for each other thread
abbrev pub choices_of : Client → Table → State → ℕ → List Choice
choices_of c t s set = let chosen = actors_below set (2 * length s.threads) in map (choice_of c t s chosen) chosen

-- the choices of the chosen set
pub record AreChosen (c : Client) (t : Table) (s : State) (choices : List Choice) : Type 0 where
  pub set : ℕ
  pub is : IsChoice c t s set
  pub all : choices ≡ choices_of c t s set
