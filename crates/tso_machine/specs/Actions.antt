-- The code's actions, which name registers and operations, as actions of the model.
use Rattle.tso_prog.specs.Views.{answer_view}
use Rattle.tso_machine.specs.declared.action.Action.{Action}
use Rattle.tso_machine.specs.declared.action.Action.TheVariants as code
use Rattle.tso_machine.specs.declared.action.FaultKind.{FaultKind}
use Rattle.tso_machine.specs.declared.action.FaultKind.TheVariants as faults
use Rattle.tso_machine.specs.declared.frame.Frame.{Frame}
use Rattle.tso_flow.specs.declared.location.ProcedureKind.{ProcedureKind}
use Rattle.tso_machine.specs.Activations.{Activation, activation}
use Rattle.tso_machine.specs.Frames.{patched, FitsFrame}
use Rattle.tso_machine.specs.Instructions.{at_position, with_register, exchanged, new_word}
use Rattle.tso_model.specs.Programs as model

abbrev pub fault_view : FaultKind → model.FaultKind
fault_view faults.OutOfRange = model.OutOfRange
fault_view faults.FalseAssertion = model.FalseAssertion
fault_view faults.BadAnswer = model.BadAnswer

-- what an action of the code means for a call of this procedure in this frame
abbrev pub meaning : ProcedureKind → Frame → Action → model.Action Activation
meaning name f (code.Silent patch) = model.Silent (activation name (patched f patch))
meaning name f (code.Load place to next) = model.Load place (λ w. activation name (at_position next (with_register to w f)))
meaning name f (code.Store place word next) = model.Store place word (activation name (at_position next f))
meaning name f (code.Barrier next) = model.Barrier (activation name (at_position next f))
meaning name f (code.Locked place operation r next) = model.Locked place (new_word operation r f) (λ old. activation name (at_position next (exchanged operation r f old)))
meaning name f (code.Return answer) = model.Ret (answer_view answer)
meaning name f (code.Fault kind) = model.Fail (fault_view kind)
meaning name f code.Cut = model.Cut

-- the counts that it changes are there
abbrev pub FitsAction : Frame → Action → Type 0
FitsAction f (code.Silent patch) = FitsFrame f patch
FitsAction f _ = Unit {0}
