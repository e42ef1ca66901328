-- States to which the runs are good.
use Rattle.std.specs.Prelude.{◌≡◌, ◌<◌, ℕ, Bool, true, false, List, Option, None, Some, slice_get}
use Rattle.tso_compact.specs.Plans.{IsStep}
use Rattle.tso_fifo.specs.Orders.{HasOrder}
use Rattle.tso_rec.specs.Conditions.{HasNoStopped}
use Rattle.tso_prog.specs.declared.client.Client.{Client}
use Rattle.tso_state.specs.declared.actor.Actor.{Actor}
use Rattle.tso_state.specs.declared.state.Core.{Core}
use Rattle.tso_state.specs.declared.state.Core.TheVariants.{Idle, Running, Stopped}
use Rattle.tso_state.specs.declared.state.State.{State}
use Rattle.tso_state.specs.declared.state.Thread.{Thread}

-- no fault has stopped a thread, and an order explains the calls
pub record IsGood (c : Client) (s : State) : Type 0 where
  pub unstopped : HasNoStopped s
  pub explained : HasOrder c.mode c.capacity s.history

abbrev pub AllGood : Client → List State → Type 0
AllGood c states = (n : ℕ) (s : State) → slice_get states n ≡ Some s → IsGood c s

-- those with numbers below this one
abbrev pub AllGoodBelow : Client → List State → ℕ → Type 0
AllGoodBelow c states m = (n : ℕ) (s : State) → n < m → slice_get states n ≡ Some s → IsGood c s

-- a call is running
abbrev pub is_running : Core → Bool
is_running Idle = false
is_running (Running frame) = true
is_running Stopped = false

-- a call of the thread is, if there is such a one
abbrev pub is_running_if : Option Thread → Bool
is_running_if None = false
is_running_if (Some thread) = is_running thread.core

-- where an order explains the calls of a state from which the actor's step leads to t, one explains those of t
abbrev pub StaysExplained : Client → Actor → State → Type 0
StaysExplained c a t = (s : State) → IsStep c s a t → HasOrder c.mode c.capacity s.history → HasOrder c.mode c.capacity t.history

-- state number known, which has a lower number, has the history of state number new
pub record IsKnown (states : List State) (known new : ℕ) : Type 0 where
  pub earlier : known < new
  pub state : State
  pub at : slice_get states known ≡ Some state
  pub same : (s : State) → slice_get states new ≡ Some s → state.history ≡ s.history

-- an order explains the calls of state number n
abbrev pub HasOrderAt : Client → List State → ℕ → Type 0
HasOrderAt c states n = (s : State) → slice_get states n ≡ Some s → HasOrder c.mode c.capacity s.history

-- none does
abbrev pub HasNoOrderAt : Client → List State → ℕ → Type 0
HasNoOrderAt c states n = (s : State) → slice_get states n ≡ Some s → HasOrder c.mode c.capacity s.history → ⊥
