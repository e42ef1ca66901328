-- The parts of the state in which a call has begun and its opening has led to a frame.
use Rattle.std.specs.Prelude.{◌≡◌, ℕ, ◌<◌, List, length, slice_set}
use Rattle.tso_compact.specs.Plans.{thread_in}
use Rattle.tso_hist.specs.Views.{history_view}
use Rattle.tso_hist.specs.declared.call.Call.{Call}
use Rattle.tso_line.specs.declared.instruction.CallKind.{CallKind}
use Rattle.tso_machine.specs.declared.frame.Frame.{Frame}
use Rattle.tso_model.specs.States.{Began, logged}
use Rattle.tso_prog.specs.Views.{call_view}
use Rattle.tso_state.specs.declared.state.Core.TheVariants.{Running}
use Rattle.tso_state.specs.declared.state.State.{State}
use Rattle.tso_state.specs.declared.state.Thread.{Thread}

-- thread i in this frame, with its store buffer
abbrev pub begun_thread : State → ℕ → Frame → Thread
begun_thread s i frame = record { core = Running frame; buffer = (thread_in s i).buffer }

-- these are its parts, where thread i of a state has begun a call of this kind
pub record AreBegun (s : State) (i : ℕ) (kind : CallKind) (frame : Frame) (memory : List ℕ) (threads : List Thread) (history : List (List Call)) : Type 0 where
  pub inside : i < length s.threads
  pub lists : length s.history ≡ length s.threads
  pub memory_is : memory ≡ s.memory
  pub threads_are : threads ≡ slice_set s.threads i (begun_thread s i frame)
  pub history_is : history_view history ≡ logged (history_view s.history) i (Began (call_view kind))
