-- Parts that are described and not made.
use Rattle.std.specs.Prelude.{ℕ, List, None, Some, count_by, is_some, map, replicate}
use Rattle.tso_hist.specs.declared.call.Call.{Call}
use Rattle.tso_machine.specs.declared.frame.Frame.{Frame}
use Rattle.tso_state.specs.declared.state.Core.{Core}
use Rattle.tso_state.specs.declared.state.Core.TheVariants as cores
use Rattle.tso_state.specs.declared.state.Thread.{Thread}
use Rattle.tso_store.specs.declared.history_after.CallAfter.{CallAfter}
use Rattle.tso_store.specs.declared.history_after.CallAfter.TheVariants.{Begun, Answered}
use Rattle.tso_store.specs.declared.thread_after.CoreAfter.{CoreAfter}
use Rattle.tso_store.specs.declared.thread_after.CoreAfter.TheVariants as the
use Rattle.tso_store.specs.declared.thread_after.Counts.{Counts}
use Rattle.tso_store.specs.declared.thread_after.Counts.TheVariants.{Kept, Zeros}
use Rattle.tso_store.specs.declared.thread_after.FrameAfter.{FrameAfter}
use Rattle.tso_store.specs.declared.thread_after.ThreadAfter.{ThreadAfter}

-- for each thread how many of its calls have returned
abbrev pub counts : List (List Call) → List ℕ
counts h = map (λ cs. count_by (λ c. is_some c.answer) cs) h

abbrev pub call_after : CallAfter → Call
call_after (Begun kind history) = record { kind = kind; seen = counts history.now; answer = None }
call_after (Answered call answer) = record { kind = call.now.kind; seen = call.now.seen; answer = Some answer }

abbrev pub counts_of : Counts → List ℕ
counts_of (Kept taken) = taken
counts_of (Zeros zeros) = replicate zeros.count zeros.item

abbrev pub frame_of : FrameAfter → Frame
frame_of f = record { pc = f.pc; registers = f.registers; flags = f.flags; taken = counts_of f.taken }

abbrev pub core_of : CoreAfter → Core
core_of (the.Same core) = core.now
core_of the.Idle = cores.Idle
core_of (the.Running frame) = cores.Running (frame_of frame)
core_of the.Stopped = cores.Stopped

abbrev pub thread_of : ThreadAfter → Thread
thread_of t = record { core = core_of t.core; buffer = t.buffer }
