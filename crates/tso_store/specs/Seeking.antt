-- The state after a step, sought among kept states.
use Rattle.std.specs.Prelude.{◌≡◌, ℕ, List, MatchOption, Option, None, Some, slice_get}
use Rattle.tso_compact.specs.Motions.{log_of, thread_after}
use Rattle.tso_compact.specs.Plans.{HasStep, IsStep}
use Rattle.tso_compact.specs.declared.motion.Motion.{Motion}
use Rattle.tso_hist.specs.Views.{history_view}
use Rattle.tso_hist.specs.declared.call.Call.{Call}
use Rattle.tso_model.specs.States.{logged}
use Rattle.tso_parts.specs.Numbers.{IsNowhere}
use Rattle.tso_prog.specs.declared.client.Client.{Client}
use Rattle.tso_state.specs.declared.actor.Actor.{Actor}
use Rattle.tso_state.specs.declared.state.State.{State}
use Rattle.tso_state.specs.declared.state.Thread.{Thread}
use Rattle.tso_keys.specs.Keys.{IsKeyOf, state_at, states_at}
use Rattle.tso_store.specs.Sheets.{CanStep, IsSuccessorNowhere}
use Rattle.tso_store.specs.Stepping.{IsStepOf}
use Rattle.tso_keys.specs.declared.key.Key.{Key}
use Rattle.tso_keys.specs.declared.parts.Parts.{Parts}
use Rattle.tso_store.specs.declared.sought.Sought.{Sought}
use Rattle.tso_store.specs.declared.sought.Sought.TheVariants.{Disabled, Absent, At}

-- the number of the value, or that it has none
abbrev pub IsSought : {X : Type 0} → List X → X → Option ℕ → Type 0
IsSought pool x o = MatchOption o (IsNowhere pool x) (λ n. slice_get pool n ≡ Some x)

-- the number of this history with what the step of thread i writes into it, or that it has none
pub record IsHistorySought (h : List (List Call)) (i : ℕ) (m : Motion) (pool : List (List (List Call))) (o : Option ℕ) : Type 0 where
  pub history : List (List Call)
  pub is : history_view history ≡ logged (history_view h) i (log_of m)
  pub sought : IsSought pool history o

-- the number of thread number n after a step that has read this word, or that it has none
abbrev pub IsThreadSought : List Thread → ℕ → Motion → ℕ → Option ℕ → Type 0
IsThreadSought pool n m word o = (t : Thread) → slice_get pool n ≡ Some t → IsSought pool (thread_after t m word) o

-- no state after the actor's step has a key
abbrev pub HasNoKeyAfter : Client → Parts → Key → Actor → Type 0
HasNoKeyAfter c p k a = (t : State) (l : Key) → IsStep c (state_at p k) a t → IsKeyOf p l t → ⊥

-- the key of the state after the actor's step, or that it has none
abbrev pub IsKeySought : Client → Parts → Key → Actor → Option Key → Type 0
IsKeySought c p k a None = HasNoKeyAfter c p k a
IsKeySought c p k a (Some next) = IsStepOf c p k a p next

-- the same, where there may be no step
abbrev pub IsStepSought : Client → Parts → Key → Actor → Sought → Type 0
IsStepSought c p k a Disabled = HasStep c (state_at p k) a → ⊥
IsStepSought c p k a Absent = HasStep c (state_at p k) a × HasNoKeyAfter c p k a
IsStepSought c p k a (At next) = IsStepOf c p k a p next

-- the key of the state after the actor's step from the state with this number
pub record IsStepFrom (c : Client) (p : Parts) (ks : List Key) (n : ℕ) (a : Actor) (next : Key) : Type 0 where
  pub from : Key
  pub at : slice_get ks n ≡ Some from
  pub step : IsStepOf c p from a p next

-- that key, or that there is no such step, or that no kept state comes of it
abbrev pub IsSoughtFrom : Client → Parts → List Key → ℕ → Actor → Sought → Type 0
IsSoughtFrom c p ks n a Disabled = CanStep c (states_at p ks) n a → ⊥
IsSoughtFrom c p ks n a Absent = CanStep c (states_at p ks) n a × IsSuccessorNowhere c (states_at p ks) n a
IsSoughtFrom c p ks n a (At next) = IsStepFrom c p ks n a next
