-- States as the model's compact states.
use Rattle.std.specs.Prelude.{List, [], ◌∷◌, map}
use Rattle.tso_flow.specs.Calls.{kind_of}
use Rattle.tso_flow.specs.declared.location.ProcedureKind.{ProcedureKind}
use Rattle.tso_flow.specs.declared.location.ProcedureKind.TheVariants as procedures
use Rattle.tso_hist.specs.Views.{history_view}
use Rattle.tso_hist.specs.declared.call.Call.{Call}
use Rattle.tso_machine.specs.Activations.{Activation, activation}
use Rattle.tso_machine.specs.Machines.{entry_view}
use Rattle.tso_model.specs.States as model
use Rattle.tso_state.specs.declared.state.Core.{Core}
use Rattle.tso_state.specs.declared.state.Core.TheVariants.{Idle, Running, Stopped}
use Rattle.tso_state.specs.declared.state.State.{State}
use Rattle.tso_state.specs.declared.state.Thread.{Thread}

-- the procedure that the last of these calls runs; that of a pop where there is none
abbrev pub running_procedure : List Call → ProcedureKind
running_procedure [] = procedures.Pop
running_procedure (c ∷ []) = kind_of c.kind
running_procedure (c ∷ d ∷ rest) = running_procedure (d ∷ rest)

-- what a thread is doing, where its last call runs this procedure
abbrev pub core_view : ProcedureKind → Core → model.CompactCore Activation
core_view procedure Idle = model.Resting
core_view procedure (Running frame) = model.Executing (activation procedure frame)
core_view procedure Stopped = model.Halted

-- a thread whose last call runs this procedure
abbrev pub thread_view : ProcedureKind → Thread → model.CompactThread Activation
thread_view procedure t = record { core = core_view procedure t.core; buffer = map entry_view t.buffer }

-- thread by thread; one without a list of calls has begun none
abbrev pub threads_view : List (List Call) → List Thread → List (model.CompactThread Activation)
threads_view history [] = []
threads_view [] (t ∷ rest) = thread_view (running_procedure []) t ∷ threads_view [] rest
threads_view (calls ∷ history) (t ∷ rest) = thread_view (running_procedure calls) t ∷ threads_view history rest

-- the compact state of the model that a state stands for
abbrev pub state_of : State → model.State Activation
state_of s = record { memory = s.memory; threads = threads_view s.history s.threads; history = history_view s.history }
