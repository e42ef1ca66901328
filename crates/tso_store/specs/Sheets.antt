-- A client and its states.
use Rattle.std.specs.Prelude.{◌≡◌, ◌<◌, ◌^◌, ℕ, Bool, List, length, Option, Some, None, slice_get}
use Rattle.tso_compact.specs.Plans.{HasStep, IsStep}
use Rattle.tso_parts.specs.Numbers.{IsNowhere, grown}
use Rattle.tso_parts.specs.declared.refused.Refused.{Refused}
use Rattle.tso_parts.specs.declared.refused.Refused.TheVariants as reasons
use Rattle.tso_prog.specs.declared.client.Client.{Client}
use Rattle.tso_state.specs.declared.actor.Actor.{Actor}
use Rattle.tso_state.specs.declared.state.State.{State}
use Rattle.tso_keys.specs.Keys.{AreKept}
use Rattle.tso_store.specs.Remembered.{AreKnown}
use Rattle.tso_keys.specs.Running.{AreRunning}
use Rattle.tso_store.specs.declared.fault.AddError.{AddError}
use Rattle.tso_store.specs.declared.fault.AddError.TheVariants as errors
use Rattle.tso_keys.specs.declared.key.Key.{Key}
use Rattle.tso_store.specs.declared.known.Known.{Known}
use Rattle.tso_keys.specs.declared.parts.Parts.{Parts}
use Rattle.tso_keys.specs.declared.running.Running.{Running}
use Rattle.tso_store.specs.declared.sought.Found.{Found}
use Rattle.tso_store.specs.declared.sought.Found.TheVariants.{Disabled, Absent, At}

-- what contracts see of a store
pub record Sheet : Type 0 where
  pub client : Client
  pub states : List State
  -- how many states and parts are kept in all
  pub kept : ℕ

pub record IsSheet (c : Client) (parts : Parts) (keys : List Key) (ds : List Known) (rs : List Running) : Type 0 where
  pub kept : AreKept c parts keys
  pub small : length parts.threads < 2 ^ 32
  pub recalls : AreKnown c parts.threads ds
  pub running : AreRunning parts.histories rs

-- why the state is not kept whose part or key is refused
abbrev pub error_of : Refused → AddError
error_of reasons.Memory = errors.Memory
error_of reasons.Full = errors.Full

-- the state has this number, and stands at the end if it is new
pub record IsAdded (old new : List State) (s : State) (r : ℕ × Bool) : Type 0 where
  pub number : slice_get new r.0 ≡ Some s
  pub kept : new ≡ grown old s r.1

-- the actor has a step from state number n
pub record CanStep (c : Client) (states : List State) (n : ℕ) (a : Actor) : Type 0 where
  pub from : State
  pub at : slice_get states n ≡ Some from
  pub step : HasStep c from a

-- the state after the actor's step from state number n has this number
pub record IsSuccessor (c : Client) (old new : List State) (n : ℕ) (a : Actor) (r : ℕ × Bool) : Type 0 where
  pub from : State
  pub to : State
  pub at : slice_get old n ≡ Some from
  pub step : IsStep c from a to
  pub added : IsAdded old new to r

-- the number of that state, or that there is none
abbrev pub IsSuccessorOrNone : Client → List State → List State → ℕ → Actor → Option (ℕ × Bool) → Type 0
IsSuccessorOrNone c old new n a None = (CanStep c old n a → ⊥) × (new ≡ old)
IsSuccessorOrNone c old new n a (Some r) = IsSuccessor c old new n a r

-- the state after the actor's step from state number n is kept with this number
pub record IsKeptSuccessor (c : Client) (states : List State) (n : ℕ) (a : Actor) (m : ℕ) : Type 0 where
  pub from : State
  pub to : State
  pub at : slice_get states n ≡ Some from
  pub step : IsStep c from a to
  pub number : slice_get states m ≡ Some to

-- no state after the actor's step from state number n is kept
abbrev pub IsSuccessorNowhere : Client → List State → ℕ → Actor → Type 0
IsSuccessorNowhere c states n a = (from to : State) → slice_get states n ≡ Some from → IsStep c from a to → IsNowhere states to

-- the number of that state, that it is not kept, or that there is none
abbrev pub IsFound : Client → List State → ℕ → Actor → Found → Type 0
IsFound c states n a Disabled = CanStep c states n a → ⊥
IsFound c states n a Absent = CanStep c states n a × IsSuccessorNowhere c states n a
IsFound c states n a (At m) = IsKeptSuccessor c states n a m
