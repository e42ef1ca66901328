-- Changes of a thread, and back.
use Rattle.std.specs.Prelude.{◌≡◌, ℕ, ◌+◌, ◌-◌, ◌<◌, ◌^◌, false, length, replicate, slice_set}
use Rattle.tso_flow.specs.Accesses.{register_number}
use Rattle.tso_line.specs.declared.instruction.Register.TheVariants.{Rdi}
use Rattle.tso_machine.specs.declared.change.Change.{Change}
use Rattle.tso_machine.specs.declared.change.Change.TheVariants as changes
use Rattle.tso_machine.specs.declared.change.ChangeBack.{ChangeBack}
use Rattle.tso_machine.specs.declared.change.ChangeBack.TheVariants as backs
use Rattle.tso_machine.specs.declared.frame.Frame.{Frame}
use Rattle.tso_flow.specs.declared.location.ProcedureKind.{ProcedureKind}
use Rattle.tso_machine.specs.declared.machine.Core.{Core}
use Rattle.tso_machine.specs.declared.machine.Core.TheVariants.{Idle, Running, Stopped}
use Rattle.tso_machine.specs.declared.machine.Running.{Running as Call}
use Rattle.tso_machine.specs.declared.machine.Stage.TheVariants.{Outside, HasRead, HasWritten}
use Rattle.tso_machine.specs.declared.machine.Thread.{Thread}
use Rattle.tso_machine.specs.Frames.{patched, FitsFrame}
use Rattle.tso_machine.specs.Queue.{pushed, popped, drained, undrained}

-- all registers and flags 0 but RDI, and no back jump taken
abbrev pub first_frame : ℕ → ℕ → Frame
first_frame argument jumps = record {
  pc = 0;
  registers = slice_set (replicate 15 0) (register_number Rdi) argument;
  flags = record { of = false; sf = false; cf = false; zf = false };
  taken = replicate jumps 0;
}

abbrev pub first_running : ProcedureKind → ℕ → ℕ → Call
first_running name argument jumps = record { procedure = name; frame = first_frame argument jumps; stage = Outside }

-- a running call changed; other cores stay
abbrev pub running_after : Core → (Call → Call) → Core
running_after Idle f = Idle
running_after (Running r) f = Running (f r)
running_after Stopped f = Stopped

-- the thread after a change
abbrev pub thread_after : Thread → Change → Thread
thread_after t (changes.Begin name argument jumps) = record t { begun = t.begun + 1; core = Running (first_running name argument jumps) }
thread_after t (changes.Run patch) = record t { core = running_after t.core (λ r. record r { frame = patched r.frame patch }) }
thread_after t (changes.Store entry next) = record t { core = running_after t.core (λ r. record r { frame = record r.frame { pc = next } }); buffer = pushed t.buffer entry }
thread_after t (changes.Go stage) = record t { core = running_after t.core (λ r. record r { stage = stage }) }
thread_after t (changes.WriteLocked old entry) = record t { core = running_after t.core (λ r. record r { stage = HasWritten old }); buffer = pushed t.buffer entry }
thread_after t (changes.Unlock patch) = record t { core = running_after t.core (λ r. record r { frame = patched r.frame patch; stage = Outside }) }
thread_after t changes.Return = record t { core = Idle }
thread_after t changes.Stop = record t { core = Stopped }
thread_after t changes.Drain = record t { buffer = drained t.buffer }

-- the thread before it
abbrev pub thread_before : Thread → ChangeBack → Thread
thread_before t backs.Begin = record t { begun = t.begun - 1; core = Idle }
thread_before t (backs.Run patch) = record t { core = running_after t.core (λ r. record r { frame = patched r.frame patch }) }
thread_before t (backs.Store next) = record t { core = running_after t.core (λ r. record r { frame = record r.frame { pc = next } }); buffer = popped t.buffer }
thread_before t (backs.Go stage) = record t { core = running_after t.core (λ r. record r { stage = stage }) }
thread_before t (backs.WriteLocked old) = record t { core = running_after t.core (λ r. record r { stage = HasRead old }); buffer = popped t.buffer }
thread_before t (backs.Unlock patch stage) = record t { core = running_after t.core (λ r. record r { frame = patched r.frame patch; stage = stage }) }
thread_before t (backs.Leave core) = record t { core = core }
thread_before t backs.Drain = record t { buffer = undrained t.buffer }

-- the core runs a call, and the fact holds of it
abbrev pub IsRunningWith : Core → (Call → Type 0) → Type 0
IsRunningWith Idle P = ⊥
IsRunningWith (Running r) P = P r
IsRunningWith Stopped P = ⊥

abbrev pub IsRunning : Core → Type 0
IsRunning core = IsRunningWith core (λ r. Unit {0})

abbrev pub IsIdle : Core → Type 0
IsIdle Idle = Unit {0}
IsIdle (Running r) = ⊥
IsIdle Stopped = ⊥

-- the change can be made of this thread
abbrev pub FitsChange : Thread → Change → Type 0
FitsChange t (changes.Begin name argument jumps) = IsIdle t.core × (t.begun + 1 < 2 ^ 64)
FitsChange t (changes.Run patch) = IsRunningWith t.core (λ r. FitsFrame r.frame patch)
FitsChange t (changes.Store entry next) = IsRunning t.core
FitsChange t (changes.Go stage) = IsRunning t.core
FitsChange t (changes.WriteLocked old entry) = IsRunningWith t.core (λ r. r.stage ≡ HasRead old)
FitsChange t (changes.Unlock patch) = IsRunningWith t.core (λ r. FitsFrame r.frame patch)
FitsChange t changes.Return = Unit {0}
FitsChange t changes.Stop = Unit {0}
FitsChange t changes.Drain = 0 < length t.buffer.live

-- the change can be taken back of this thread
abbrev pub FitsBack : Thread → ChangeBack → Type 0
FitsBack t backs.Begin = 0 < t.begun
FitsBack t (backs.Run patch) = IsRunningWith t.core (λ r. FitsFrame r.frame patch)
FitsBack t (backs.Store next) = IsRunning t.core × (0 < length t.buffer.live)
FitsBack t (backs.Go stage) = IsRunning t.core
FitsBack t (backs.WriteLocked old) = IsRunning t.core × (0 < length t.buffer.live)
FitsBack t (backs.Unlock patch stage) = IsRunningWith t.core (λ r. FitsFrame r.frame patch)
FitsBack t (backs.Leave core) = Unit {0}
FitsBack t backs.Drain = 0 < length t.buffer.past
