-- What a step does to its thread, to memory and to the history.
use Rattle.std.specs.Prelude.{ℕ, List, [], ◌∷◌, ◌++◌, drop, map, Option, None, Some, slice_set}
use Rattle.tso_flow.specs.Calls.{kind_of}
use Rattle.tso_flow.specs.declared.location.ProcedureKind.{ProcedureKind}
use Rattle.tso_line.specs.declared.instruction.CallKind.{CallKind}
use Rattle.tso_line.specs.declared.instruction.CallKind.TheVariants as calls
use Rattle.tso_line.specs.declared.instruction.LockedOperation.{LockedOperation}
use Rattle.tso_line.specs.declared.instruction.Register.{Register}
use Rattle.tso_machine.specs.Activations.{Activation}
use Rattle.tso_machine.specs.Changes.{first_frame}
use Rattle.tso_machine.specs.Frames.{patched, FitsFrame}
use Rattle.tso_machine.specs.Instructions.{at_position, with_register, exchanged, new_word}
use Rattle.tso_machine.specs.Machines.{entry_view, label_of}
use Rattle.tso_machine.specs.declared.buffer.Entry.{Entry}
use Rattle.tso_machine.specs.declared.frame.Frame.{Frame}
use Rattle.tso_machine.specs.declared.label.Label.{Label}
use Rattle.tso_machine.specs.declared.label.LabelKind.{LabelKind}
use Rattle.tso_machine.specs.declared.label.LabelKind.TheVariants as kinds
use Rattle.tso_model.specs.Labels as labels
use Rattle.tso_model.specs.Programs.{CallKind as ModelCall, Program}
use Rattle.tso_model.specs.StepLabels.{labels_of_action, labels_of_call}
use Rattle.tso_model.specs.States.{latest, Log, Same, Began, Answered, Buffer, CompactCore, Executing, Halted, Resting}
use Rattle.tso_model.specs.Steps as model
use Rattle.tso_prog.specs.Views.{answer_view, call_view}
use Rattle.tso_compact.specs.declared.motion.Motion.{Motion}
use Rattle.tso_compact.specs.declared.motion.Motion.TheVariants as the
use Rattle.tso_state.specs.Views.{thread_view}
use Rattle.tso_state.specs.declared.state.Core.{Core}
use Rattle.tso_state.specs.declared.state.Core.TheVariants.{Idle, Running, Stopped}
use Rattle.tso_state.specs.declared.state.Thread.{Thread}

-- a thread that runs a call with this frame, and has these stores in its buffer
abbrev pub running_thread : Frame → List Entry → Thread
running_thread frame buffer = record { core = Running frame; buffer = buffer }

-- a running call's frame changed; other cores stay
abbrev pub core_after : Core → (Frame → Frame) → Core
core_after Idle change = Idle
core_after (Running frame) change = Running (change frame)
core_after Stopped change = Stopped

-- the word that a push begins with in RDI
abbrev pub argument_of : CallKind → ℕ
argument_of (calls.Push v) = v
argument_of calls.Pop = 0

-- the thread after a step that has read this word in memory
abbrev pub thread_after : Thread → Motion → ℕ → Thread
thread_after t (the.Run patch) word = record t { core = core_after t.core (λ f. patched f patch) }
thread_after t (the.Pass next) word = record t { core = core_after t.core (at_position next) }
thread_after t (the.Load place to next) word = record t { core = core_after t.core (λ f. at_position next (with_register to (latest (map entry_view t.buffer) place word) f)) }
thread_after t (the.Store entry next) word = record { core = core_after t.core (at_position next); buffer = t.buffer ++ entry ∷ [] }
thread_after t (the.Locked place operation register next) word = record t { core = core_after t.core (λ f. at_position next (exchanged operation register f word)) }
thread_after t (the.Begin kind jumps) word = record t { core = Running (first_frame (argument_of kind) jumps) }
thread_after t (the.Return answer) word = record t { core = Idle }
thread_after t (the.Stop fault) word = record t { core = Stopped }
thread_after t (the.Drain entry) word = record t { buffer = drop 1 t.buffer }

-- the procedure that the thread's last call runs, after the step
abbrev pub procedure_after : ProcedureKind → Motion → ProcedureKind
procedure_after procedure (the.Begin kind jumps) = kind_of kind
procedure_after procedure _ = procedure

-- the word that a locked instruction of a running call writes over the old one
abbrev pub locked_word : Core → LockedOperation → Register → ℕ → ℕ
locked_word (Running frame) operation register old = new_word operation register frame old
locked_word Idle operation register old = old
locked_word Stopped operation register old = old

-- what the step does with memory
abbrev pub access_of : Thread → Motion → model.Access
access_of t (the.Load place to next) = model.Read place
access_of t (the.Locked place operation register next) = model.Update place (locked_word t.core operation register)
access_of t (the.Drain entry) = model.Write entry.place entry.word
access_of t _ = model.Nothing

-- what the step writes into the history
abbrev pub log_of : Motion → Log
log_of (the.Begin kind jumps) = Began (call_view kind)
log_of (the.Return answer) = Answered (answer_view answer)
log_of _ = Same

-- the model's move of a thread whose last call runs this procedure
abbrev pub move_of : ProcedureKind → Thread → Motion → model.Move Activation
move_of procedure t m = record { access = access_of t m; after = λ word. thread_view (procedure_after procedure m) (thread_after t m word); log = log_of m }

abbrev pub label_at : ℕ → LabelKind → Label
label_at i kind = record { thread = i; kind = kind }

-- the labels of a locked instruction of thread i, by the old word and the new one
abbrev pub locked_labels : ℕ → ℕ → ℕ → ℕ → List Label
locked_labels i place old new =
    label_at i kinds.Lock ∷ label_at i (kinds.Read place old) ∷ label_at i (kinds.Write place new) ∷ label_at i (kinds.Drain place new) ∷ label_at i kinds.Unlock ∷ []

-- the labels of the step of thread i that has read this word in memory
abbrev pub labels_of_motion : ℕ → ℕ → Thread → Motion → List Label
labels_of_motion word i t (the.Run patch) = label_at i kinds.Reg ∷ []
labels_of_motion word i t (the.Pass next) = label_at i kinds.Fence ∷ []
labels_of_motion word i t (the.Load place to next) = label_at i (kinds.Read place (latest (map entry_view t.buffer) place word)) ∷ []
labels_of_motion word i t (the.Store entry next) = label_at i (kinds.Write entry.place entry.word) ∷ []
labels_of_motion word i t (the.Locked place operation register next) = locked_labels i place word (locked_word t.core operation register word)
labels_of_motion word i t (the.Begin kind jumps) = label_at i (kinds.Call kind) ∷ []
labels_of_motion word i t (the.Return answer) = label_at i (kinds.Return answer) ∷ []
labels_of_motion word i t (the.Stop fault) = label_at i (kinds.Fault fault) ∷ []
labels_of_motion word i t (the.Drain entry) = label_at i (kinds.Drain entry.place entry.word) ∷ []

-- the same as the model's, where memory is this
abbrev pub labels_in : List ℕ → ℕ → Thread → Motion → List labels.Label
labels_in memory i t m = map label_of (labels_of_motion (model.word_read memory (access_of t m)) i t m)

-- the labels of what a core does next, where memory is this and `call` may begin
abbrev pub core_labels : Program Activation → List ℕ → ℕ → Option ModelCall → Buffer → CompactCore Activation → List labels.Label
core_labels p memory i call buffer Resting = labels_of_call i call
core_labels p memory i call buffer (Executing a) = labels_of_action memory i buffer (p.next a)
core_labels p memory i call buffer Halted = []

-- the core runs a call, and the fact holds of its frame
abbrev pub IsRunningWith : Core → (Frame → Type 0) → Type 0
IsRunningWith Idle P = ⊥
IsRunningWith (Running frame) P = P frame
IsRunningWith Stopped P = ⊥

-- the step is one that the thread can take: a running call's instruction, with counts that its frame has
abbrev pub Fits : Thread → Motion → Type 0
Fits t (the.Run patch) = IsRunningWith t.core (λ f. FitsFrame f patch)
Fits t (the.Pass next) = IsRunningWith t.core (λ f. Unit {0})
Fits t (the.Load place to next) = IsRunningWith t.core (λ f. Unit {0})
Fits t (the.Store entry next) = IsRunningWith t.core (λ f. Unit {0})
Fits t (the.Locked place operation register next) = IsRunningWith t.core (λ f. Unit {0})
Fits t _ = Unit {0}

-- memory with an entry written, if there is one
abbrev pub memory_with : List ℕ → Option Entry → List ℕ
memory_with memory None = memory
memory_with memory (Some entry) = slice_set memory entry.place entry.word

-- an instruction after which the call goes on
abbrev pub GoesOn : Motion → Type 0
GoesOn (the.Begin kind jumps) = ⊥
GoesOn (the.Return answer) = ⊥
GoesOn (the.Stop fault) = ⊥
GoesOn (the.Drain entry) = ⊥
GoesOn _ = Unit {0}
