-- States that compact steps reach, and where they were met from.
use Rattle.std.specs.Prelude.{◌≡◌, ◌⊎◌, ◌+◌, ◌<◌, ℕ, List, Some, slice_get}
use Rattle.tso_compact.specs.Laws.{IsPlausible, initial_of}
use Rattle.tso_search.specs.Grounds.{Leads}
use Rattle.tso_search.specs.declared.ground.Ground.{Ground}
use Rattle.tso_search.specs.declared.origin.Origin.{Origin}
use Rattle.tso_fifo.specs.Orders.{HasOrder}
use Rattle.tso_rec.specs.Conditions.{HasNoStopped}
use Rattle.tso_machine.specs.Programs.{program_of}
use Rattle.tso_model.specs.Reduce.{Steps}
use Rattle.tso_model.specs.Steps as model
use Rattle.tso_prog.specs.declared.client.Client.{Client}
use Rattle.tso_state.specs.Views.{state_of}
use Rattle.tso_state.specs.declared.state.State.{State}

-- compact steps lead from the initial state to this one
abbrev pub IsReached : Client → State → Type 0
IsReached c s = (actors : List model.Actor) × Steps (model.step (program_of c)) (initial_of c) actors (state_of s)

-- it is reached, and well-formed with each running call on a path of its procedure, as all that are reached are
pub record IsMet (c : Client) (s : State) : Type 0 where
  pub reached : IsReached c s
  pub plausible : IsPlausible c s

abbrev pub AllMet : Client → List State → Type 0
AllMet c states = (n : ℕ) (s : State) → slice_get states n ≡ Some s → IsMet c s

-- the actor leads from a state with a lower number to state number n
pub record IsOrigin (c : Client) (g : Ground) (states : List State) (n : ℕ) (o : Origin) : Type 0 where
  pub earlier : o.from < n
  pub before : State
  pub after : State
  pub before_at : slice_get states o.from ≡ Some before
  pub after_at : slice_get states n ≡ Some after
  pub leads : Leads c g before o.actor after

-- each state but the first has its origin, in order
abbrev pub AreOrigins : Client → Ground → List State → List Origin → Type 0
AreOrigins c g states origins = (k : ℕ) (o : Origin) → slice_get origins k ≡ Some o → IsOrigin c g states (k + 1) o

-- a run to this state is not good: a fault has stopped a thread, or no order explains the calls
abbrev pub IsBad : Client → State → Type 0
IsBad c s = (HasNoStopped s → ⊥) ⊎ (HasOrder c.mode c.capacity s.history → ⊥)

-- state number n is such a one
pub record IsBadAt (c : Client) (states : List State) (n : ℕ) : Type 0 where
  pub state : State
  pub at : slice_get states n ≡ Some state
  pub bad : IsBad c state
