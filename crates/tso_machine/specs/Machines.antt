-- The code's machines and labels as those of the model.
use Rattle.std.specs.Prelude.{ℕ, map}
use Rattle.tso_prog.specs.Views.{call_view, answer_view}
use Rattle.tso_machine.specs.Actions.{fault_view}
use Rattle.tso_machine.specs.Queue.{Queue}
use Rattle.tso_machine.specs.Activations.{Activation, activation}
use Rattle.tso_machine.specs.declared.label.Label.{Label}
use Rattle.tso_machine.specs.declared.label.LabelKind.{LabelKind}
use Rattle.tso_machine.specs.declared.label.LabelKind.TheVariants as kinds
use Rattle.tso_machine.specs.declared.machine.Core.{Core}
use Rattle.tso_machine.specs.declared.machine.Core.TheVariants as cores
use Rattle.tso_machine.specs.declared.buffer.Entry.{Entry}
use Rattle.tso_machine.specs.declared.machine.Machine.{Machine}
use Rattle.tso_machine.specs.declared.machine.Stage.{Stage}
use Rattle.tso_machine.specs.declared.machine.Stage.TheVariants as stages
use Rattle.tso_machine.specs.declared.machine.Thread.{Thread}
use Rattle.tso_model.specs.Labels as model
use Rattle.tso_model.specs.States as states

abbrev pub stage_view : Stage → model.Stage
stage_view stages.Outside = model.Outside
stage_view stages.HasLock = model.HasLock
stage_view (stages.HasRead word) = model.HasRead word
stage_view (stages.HasWritten word) = model.HasWritten word

abbrev pub core_view : Core → model.Core Activation
core_view cores.Idle = model.Idle
core_view (cores.Running r) = model.Running (activation r.procedure r.frame) (stage_view r.stage)
core_view cores.Stopped = model.Stopped

abbrev pub entry_view : Entry → ℕ × ℕ
entry_view e = (e.place, e.word)

-- the entries that are not drained
abbrev pub buffer_view : Queue → states.Buffer
buffer_view q = map entry_view q.live

abbrev pub thread_view : Thread → model.Thread Activation
thread_view t = record { begun = t.begun; core = core_view t.core; buffer = buffer_view t.buffer }

-- the machine of the model that a machine stands for
abbrev pub machine_of : Machine → model.Machine Activation
machine_of m = record { memory = m.memory; lock = m.lock; threads = map thread_view m.threads }

abbrev pub kind_view : LabelKind → model.Kind
kind_view (kinds.Call kind) = model.Call (call_view kind)
kind_view kinds.Reg = model.Reg
kind_view (kinds.Read place word) = model.Read place word
kind_view (kinds.Write place word) = model.Write place word
kind_view (kinds.Drain place word) = model.Drain place word
kind_view kinds.Fence = model.Fence
kind_view kinds.Lock = model.Lock
kind_view kinds.Unlock = model.Unlock
kind_view (kinds.Return answer) = model.Return (answer_view answer)
kind_view (kinds.Fault kind) = model.Fault (fault_view kind)

abbrev pub label_of : Label → model.Label
label_of l = model.By l.thread (kind_view l.kind)
