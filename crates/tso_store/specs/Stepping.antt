-- Steps of kept states.
use Rattle.std.specs.Prelude.{◌≡◌, ◌<◌, ℕ, List, Option, Some, None, length, slice_get, slice_set}
use Rattle.tso_compact.specs.Motions.{Fits, access_of, log_of, memory_with}
use Rattle.tso_compact.specs.Plans.{HasStep, IsStep, motion_view, thread_in}
use Rattle.tso_compact.specs.declared.motion.Motion.{Motion}
use Rattle.tso_hist.specs.Views.{history_view}
use Rattle.tso_hist.specs.declared.call.Call.{Call}
use Rattle.tso_machine.specs.Programs.{program_of}
use Rattle.tso_machine.specs.declared.buffer.Entry.{Entry}
use Rattle.tso_model.specs.States.{logged}
use Rattle.tso_model.specs.Steps.{memory_after, move, word_read}
use Rattle.tso_prog.specs.declared.client.Client.{Client}
use Rattle.tso_state.specs.Actors.{actor_of, thread_of}
use Rattle.tso_state.specs.Views.{state_of}
use Rattle.tso_state.specs.declared.actor.Actor.{Actor}
use Rattle.tso_state.specs.declared.state.State.{State}
use Rattle.tso_state.specs.declared.state.Thread.{Thread}
use Rattle.tso_keys.specs.Keys.{FitsClient, IsKeyOf, state_at}
use Rattle.tso_keys.specs.declared.key.Key.{Key}
use Rattle.tso_keys.specs.declared.parts.Parts.{Parts}

-- the actor's next step in the state is this one
pub record IsPlanned (c : Client) (s : State) (a : Actor) (m : Motion) : Type 0 where
  pub is : move (program_of c) (state_of s) (actor_of a) ≡ Some (motion_view s (thread_of a) m)
  pub there : thread_of a < length s.threads
  pub fits : Fits (thread_in s (thread_of a)) m

-- the key with another thread
abbrev pub with_thread : Key → ℕ → ℕ → Key
with_thread k i n = record { memory = k.memory; history = k.history; threads = slice_set k.threads i n }

-- the new key is that of the state after the actor's step
pub record IsStepOf (c : Client) (old : Parts) (k : Key) (a : Actor) (new : Parts) (next : Key) : Type 0 where
  pub state : State
  pub step : IsStep c (state_at old k) a state
  pub key : IsKeyOf new next state
  pub fits : FitsClient c state

-- the new key, if there is a step
abbrev pub IsStepKey : Client → Parts → Key → Actor → Parts → Option Key → Type 0
IsStepKey c old k a new None = HasStep c (state_at old k) a → ⊥
IsStepKey c old k a new (Some next) = IsStepOf c old k a new next

-- history number n of the pool is this one with what the step of thread i writes into it
pub record IsLogged (h : List (List Call)) (i : ℕ) (m : Motion) (pool : List (List (List Call))) (n : ℕ) : Type 0 where
  pub history : List (List Call)
  pub at : slice_get pool n ≡ Some history
  pub is : history_view history ≡ logged (history_view h) i (log_of m)

-- the entry is what the step of this thread that has read this word writes to memory
abbrev pub IsWritten : Thread → Motion → ℕ → Option Entry → Type 0
IsWritten t m word entry = (memory : List ℕ) → word ≡ word_read memory (access_of t m) → memory_with memory entry ≡ memory_after memory (access_of t m)
