-- Steps that may go first alone.
use Rattle.std.specs.Prelude.{◌≡◌, ◌<◌, ℕ, Bool, true, false, List, length, Option, None, Some, slice_get}
use Rattle.std.specs.Option.{option_map}
use Rattle.tso_compact.specs.Clauses.{move_in}
use Rattle.tso_compact.specs.Plans.{kind_of_move}
use Rattle.tso_compact.specs.declared.sort.StepKind.{StepKind}
use Rattle.tso_compact.specs.declared.sort.StepKind.TheVariants as kinds
use Rattle.tso_prog.specs.declared.client.Client.{Client}
use Rattle.tso_state.specs.declared.actor.Actor.{Actor}
use Rattle.tso_state.specs.declared.actor.Actor.TheVariants.{Exec}
use Rattle.tso_state.specs.declared.state.Core.{Core}
use Rattle.tso_state.specs.declared.state.Core.TheVariants.{Idle, Running, Stopped}
use Rattle.tso_state.specs.declared.state.State.{State}
use Rattle.tso_state.specs.declared.state.Thread.{Thread}
use Rattle.tso_store.specs.declared.lone.Lone.{Lone}

-- the kind of the actor's step, if it has one
abbrev pub kind_at : Client → State → Actor → Option StepKind
kind_at c s a = option_map kind_of_move (move_in c s a)

-- a step's kind, where such a step may go first alone: one within its thread, or a return
abbrev pub lone_of : Option StepKind → Option StepKind
lone_of None = None
lone_of (Some kinds.Local) = Some kinds.Local
lone_of (Some kinds.Return) = Some kinds.Return
lone_of (Some _) = None

-- the kind of the step of thread i's core, where it may go first alone
abbrev pub lone_core : Client → State → ℕ → Option StepKind
lone_core c s i = lone_of (kind_at c s (Exec i))

-- no core of the threads below this one has such a step
abbrev pub HasNoLoneBelow : Client → State → ℕ → Type 0
HasNoLoneBelow c s i = (j : ℕ) → j < i → lone_core c s j ≡ None

-- no core has such a step
abbrev pub HasNoLoneCore : Client → State → Type 0
HasNoLoneCore c s = HasNoLoneBelow c s (length s.threads)

-- the core of this thread is the lowest with such a step, which is of this kind
pub record IsFirstLoneCore (c : Client) (s : State) (l : Lone) : Type 0 where
  pub there : l.thread < length s.threads
  pub kind : lone_core c s l.thread ≡ Some l.kind
  pub first : HasNoLoneBelow c s l.thread

-- of state number n, which has at most five threads
pub record IsLoneAt (c : Client) (states : List State) (n : ℕ) (l : Lone) : Type 0 where
  pub state : State
  pub at : slice_get states n ≡ Some state
  pub first : IsFirstLoneCore c state l
  pub few : l.thread < 5

-- the core of thread i has such a step, which is of this kind
pub record IsLoneCore (c : Client) (s : State) (i : ℕ) (k : StepKind) : Type 0 where
  pub there : i < length s.threads
  pub kind : lone_core c s i ≡ Some k

-- of state number n
pub record IsLoneCoreAt (c : Client) (states : List State) (n i : ℕ) (k : StepKind) : Type 0 where
  pub state : State
  pub at : slice_get states n ≡ Some state
  pub core : IsLoneCore c state i k

abbrev pub HasNoLoneAt : Client → List State → ℕ → Type 0
HasNoLoneAt c states n = (s : State) → slice_get states n ≡ Some s → HasNoLoneCore c s

abbrev pub is_running : Core → Bool
is_running Idle = false
is_running (Running frame) = true
is_running Stopped = false

-- a thread is there that runs a call
abbrev pub is_running_if : Option Thread → Bool
is_running_if None = false
is_running_if (Some t) = is_running t.core
