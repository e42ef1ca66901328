-- What an actor does next in a state.
use Rattle.std.specs.Prelude.{◌≡◌, ◌≤◌, ℕ, All, IsSome, List, [], length, map, Option, None, Some, slice_index_or}
use Rattle.tso_flow.specs.declared.location.ProcedureKind.{ProcedureKind}
use Rattle.tso_machine.specs.Activations.{Activation}
use Rattle.tso_machine.specs.Machines.{label_of}
use Rattle.tso_machine.specs.Programs.{program_of}
use Rattle.tso_machine.specs.declared.kinds.ActionKind.{ActionKind}
use Rattle.tso_machine.specs.declared.kinds.ActionKind.TheVariants as actions
use Rattle.tso_machine.specs.declared.label.Label.{Label}
use Rattle.tso_model.specs.Labels.{Run, machine_of}
use Rattle.tso_model.specs.Programs.{CallKind}
use Rattle.tso_model.specs.StepLabels.{labels_of}
use Rattle.tso_model.specs.States.{Buffer, Log, Same, Began, Answered}
use Rattle.tso_model.specs.Steps as model
use Rattle.tso_compact.specs.Motions.{move_of}
use Rattle.tso_compact.specs.declared.motion.Motion.{Motion}
use Rattle.tso_compact.specs.declared.sort.StepKind.{StepKind}
use Rattle.tso_compact.specs.declared.sort.StepKind.TheVariants as kinds
use Rattle.tso_prog.specs.declared.client.Client.{Client}
use Rattle.tso_state.specs.Actors.{actor_of, thread_of}
use Rattle.tso_state.specs.Views.{running_procedure, state_of}
use Rattle.tso_state.specs.declared.actor.Actor.{Actor}
use Rattle.tso_state.specs.declared.state.Core.TheVariants.{Idle}
use Rattle.tso_state.specs.declared.state.State.{State}
use Rattle.tso_state.specs.declared.state.Thread.{Thread}

-- thread i of the state; an idle one where there is none
abbrev pub thread_in : State → ℕ → Thread
thread_in s i = slice_index_or s.threads i (record { core = Idle; buffer = [] })

-- the procedure that its last call runs
abbrev pub procedure_in : State → ℕ → ProcedureKind
procedure_in s i = running_procedure (slice_index_or s.history i [])

-- the model's move of thread i
abbrev pub motion_view : State → ℕ → Motion → model.Move Activation
motion_view s i m = move_of (procedure_in s i) (thread_in s i) m

-- what kind of step a move is, by its access and its entry in the history
abbrev pub kind_by : model.Access → Log → StepKind
kind_by model.Nothing Same = kinds.Local
kind_by model.Nothing (Began k) = kinds.Call
kind_by model.Nothing (Answered a) = kinds.Return
kind_by (model.Read place) log = kinds.Load place
kind_by (model.Write place word) log = kinds.Drain place
kind_by (model.Update place new) log = kinds.Locked place

abbrev pub kind_of_move : model.Move Activation → StepKind
kind_of_move m = kind_by m.access m.log

-- of a running call with this buffer whose next instruction is of this kind
abbrev pub kind_with_buffer : Buffer → ActionKind → Option StepKind
kind_with_buffer b actions.Local = Some kinds.Local
kind_with_buffer b (actions.Load place) = Some (kinds.Load place)
kind_with_buffer b actions.Barrier = model.when_empty b kinds.Local
kind_with_buffer b (actions.Locked place) = model.when_empty b (kinds.Locked place)
kind_with_buffer b actions.Return = Some kinds.Return
kind_with_buffer b actions.Cut = None

-- of a step that begins this call, if it may begin
abbrev pub kind_of_call : Option CallKind → Option StepKind
kind_of_call None = None
kind_of_call (Some k) = Some kinds.Call

-- there is a list of calls for each thread
pub record HasHistories (s : State) : Type 0 where
  pub lists : length s.history ≡ length s.threads

-- the actor's step leads from s to t
abbrev pub IsStep : Client → State → Actor → State → Type 0
IsStep c s a t = model.step (program_of c) (state_of s) (actor_of a) ≡ Some (state_of t)

-- the actor has a step
abbrev pub HasStep : Client → State → Actor → Type 0
HasStep c s a = IsSome (model.step (program_of c) (state_of s) (actor_of a))

-- each is a label of this thread
abbrev pub AreLabelsOf : ℕ → List Label → Type 0
AreLabelsOf i ls = All (λ l. l.thread ≡ i) ls

-- the labels are those of the actor's step, one to five of its thread
pub record IsLabelled (c : Client) (s : State) (a : Actor) (ls : List Label) : Type 0 where
  pub labels : map label_of ls ≡ labels_of (program_of c) (state_of s) (actor_of a)
  pub some : 1 ≤ length ls
  pub few : length ls ≤ 5
  pub own : AreLabelsOf (thread_of a) ls

-- they are a run of the label machine, from the machine of s to that of each state to which the step leads
abbrev pub IsRunOfStep : Client → State → Actor → List Label → Type 0
IsRunOfStep c s a ls = (t : State) → IsStep c s a t → Run (program_of c) (machine_of (state_of s)) (map label_of ls) (machine_of (state_of t))
