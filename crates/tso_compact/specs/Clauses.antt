-- What clauses say of motions, by names.
use Rattle.std.specs.Prelude.{◌≡◌, ℕ, Bool, List, Option, Some, map, slice_get, IfSome}
use Rattle.std.specs.Option.{option_map}
use Rattle.tso_flow.specs.declared.location.ProcedureKind.{ProcedureKind}
use Rattle.tso_line.specs.declared.instruction.CallKind.{CallKind}
use Rattle.tso_machine.specs.Actions.{meaning}
use Rattle.tso_machine.specs.Activations.{Activation}
use Rattle.tso_machine.specs.Machines.{entry_view}
use Rattle.tso_machine.specs.Programs.{program_of}
use Rattle.tso_machine.specs.declared.action.Action.{Action}
use Rattle.tso_machine.specs.declared.buffer.Entry.{Entry}
use Rattle.tso_machine.specs.declared.frame.Frame.{Frame}
use Rattle.tso_machine.specs.declared.label.Label.{Label}
use Rattle.tso_model.specs.Prologue.{is_thread_over, may_begin, next_call}
use Rattle.tso_model.specs.StepLabels.{labels_of, labels_of_action}
use Rattle.tso_model.specs.States.{begun_by}
use Rattle.tso_model.specs.Steps.{Move, action_move, core_move, drain_move, memory_after, move, word_read}
use Rattle.tso_prog.specs.Views.{call_view}
use Rattle.tso_prog.specs.declared.client.Client.{Client}
use Rattle.tso_compact.specs.Motions.{access_of, core_labels, labels_in, labels_of_motion, memory_with, move_of, running_thread}
use Rattle.tso_compact.specs.Plans.{kind_of_move, procedure_in, thread_in}
use Rattle.tso_compact.specs.declared.motion.Motion.{Motion}
use Rattle.tso_compact.specs.declared.sort.StepKind.{StepKind}
use Rattle.tso_state.specs.Actors.{actor_of, thread_of}
use Rattle.tso_state.specs.Views.{core_view, state_of, thread_view}
use Rattle.tso_state.specs.declared.actor.Actor.{Actor}
use Rattle.tso_state.specs.declared.state.State.{State}
use Rattle.tso_state.specs.declared.state.Thread.{Thread}

-- what goes to memory is what the access of the motion writes, where this word was read
abbrev pub IsWrittenBy : Thread → Motion → ℕ → Option Entry → Type 0
IsWrittenBy t m word written =
    (memory : List ℕ) → word ≡ word_read memory (access_of t m) → memory_with memory written ≡ memory_after memory (access_of t m)

-- ---- of a thread

-- the motion is the model's move for this action
abbrev pub IsMoveFor : Frame → List Entry → Action → Option Motion → Type 0
IsMoveFor frame buffer action found =
    (name : ProcedureKind) → option_map (move_of name (running_thread frame buffer)) found ≡ action_move (map entry_view buffer) (meaning name frame action)

-- its labels are those of this action
abbrev pub HasLabelsFor : Frame → List Entry → Action → Option Motion → Type 0
HasLabelsFor frame buffer action found =
    (name : ProcedureKind) (memory : List ℕ) (i : ℕ)
    → IfSome found (λ m. labels_in memory i (running_thread frame buffer) m ≡ labels_of_action memory i (map entry_view buffer) (meaning name frame action))

-- the model's move of a core, whose last call runs this procedure and that may begin this call
abbrev pub core_move_of : Client → ProcedureKind → Option CallKind → Thread → Option (Move Activation)
core_move_of c name call t = core_move (program_of c) (option_map call_view call) (core_view name t.core) (map entry_view t.buffer)

abbrev pub HasLabelsOfCore : Client → ProcedureKind → Option CallKind → Thread → Option Motion → Type 0
HasLabelsOfCore c name call t found =
    (memory : List ℕ) (i : ℕ)
    → IfSome found (λ m. labels_in memory i t m ≡ core_labels (program_of c) memory i (option_map call_view call) (map entry_view t.buffer) (core_view name t.core))

-- the model's move of a buffer
abbrev pub drain_move_of : ProcedureKind → Thread → Option (Move Activation)
drain_move_of name t = drain_move (core_view name t.core) (map entry_view t.buffer)

-- ---- of a state

-- the thread, of this number, is idle with no call left and nothing buffered
abbrev pub is_over_in : Client → State → ℕ → ProcedureKind → Thread → Bool
is_over_in c s i name t = is_thread_over (program_of c) i (begun_by (state_of s) i) (Some (thread_view name t))

-- the calls of the thread need not wait for those of the prologue
abbrev pub may_begin_in : Client → State → ℕ → Bool
may_begin_in c s i =
    may_begin (program_of c).prologue i (λ j. is_thread_over (program_of c) j (begun_by (state_of s) j) (slice_get (state_of s).threads j))

-- the kind of the step of a core, that of thread i, if it has one
abbrev pub core_kind_in : Client → State → ℕ → Thread → Option StepKind
core_kind_in c s i t = option_map kind_of_move (core_move (program_of c) (next_call (program_of c) (state_of s) i) (core_view (procedure_in s i) t.core) (map entry_view t.buffer))

-- the model's move of the actor
abbrev pub move_in : Client → State → Actor → Option (Move Activation)
move_in c s actor = move (program_of c) (state_of s) (actor_of actor)

-- the motion's labels are the model's
abbrev pub HasLabelsIn : Client → State → Actor → Option Motion → Type 0
HasLabelsIn c s actor found =
    IfSome found (λ m. labels_in s.memory (thread_of actor) (thread_in s (thread_of actor)) m ≡ labels_of (program_of c) (state_of s) (actor_of actor))

-- the labels of thread i, in order
abbrev pub labels_named : State → ℕ → Motion → List Label
labels_named s i m = labels_of_motion (word_read s.memory (access_of (thread_in s i) m)) i (thread_in s i) m
