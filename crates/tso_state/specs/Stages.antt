-- How far the last call of a thread has come, which is all of the call that is asked of the thread. Nothing here need be believed: it serves the code.
use Rattle.std.specs.Prelude.{List, Option, Some, None}
use Rattle.tso_flow.specs.Calls.{kind_of}
use Rattle.tso_hist.specs.declared.call.Call.{Call}
use Rattle.tso_line.specs.declared.instruction.CallKind.{CallKind}
use Rattle.tso_line.specs.declared.instruction.CallKind.TheVariants.{Push, Pop}
use Rattle.tso_prog.specs.declared.answer.Answer.{Answer}
use Rattle.tso_prog.specs.declared.answer.Answer.TheVariants.{Refused, Done, Value}
use Rattle.tso_prog.specs.declared.client.Client.{Client}
use Rattle.tso_state.specs.declared.stage.Stage.{Stage}
use Rattle.tso_state.specs.declared.stage.Stage.TheVariants.{Over, Pending, Misanswered}
use Rattle.tso_state.specs.declared.state.Core.{Core}
use Rattle.tso_state.specs.declared.state.Core.TheVariants.{Idle, Running, Stopped}
use Rattle.tso_state.specs.declared.state.Thread.{Thread}
use Rattle.tso_state.specs.Fitting.{AreInside}
use Rattle.tso_state.specs.WellFormed.{IsFrameOf, last_call, word_count}

-- a call of this kind with this answer
abbrev pub stage_by : CallKind → Option Answer → Stage
stage_by kind None = Pending (kind_of kind)
stage_by kind (Some Refused) = Over
stage_by (Push v) (Some Done) = Over
stage_by Pop (Some Done) = Misanswered
stage_by (Push v) (Some (Value w)) = Misanswered
stage_by Pop (Some (Value w)) = Over

abbrev pub stage_if : Option Call → Stage
stage_if None = Over
stage_if (Some call) = stage_by call.kind call.answer

-- the last of these calls
abbrev pub stage_of : List Call → Stage
stage_of calls = stage_if (last_call calls)

-- a core at this stage of its thread's last call
abbrev pub CoreAtStage : Client → Stage → Core → Type 0
CoreAtStage c Over Idle = Unit {0}
CoreAtStage c Over (Running f) = ⊥
CoreAtStage c Over Stopped = ⊥
CoreAtStage c (Pending procedure) Idle = ⊥
CoreAtStage c (Pending procedure) (Running f) = IsFrameOf c procedure f
CoreAtStage c (Pending procedure) Stopped = Unit {0}
CoreAtStage c Misanswered core = ⊥

-- a thread at this stage of its last call
pub record ThreadAtStage (c : Client) (t : Thread) (stage : Stage) : Type 0 where
  pub inside : AreInside (word_count c) t.buffer
  pub core : CoreAtStage c stage t.core
