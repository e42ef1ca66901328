-- What a running call is: its procedure, and the frame in it.
use Rattle.tso_machine.specs.declared.frame.Frame.{Frame}
use Rattle.tso_flow.specs.declared.location.ProcedureKind.{ProcedureKind}

pub record Activation : Type 0 where
  pub procedure : ProcedureKind
  pub frame : Frame

abbrev pub activation : ProcedureKind → Frame → Activation
activation name f = record { procedure = name; frame = f }
