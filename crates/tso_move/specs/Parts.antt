-- What the parts of a move have to do with memory and with calls.
use Rattle.std.specs.Prelude.{ℕ, List, [], ◌∷◌, map, Option, Some, None, slice_get}
use Rattle.std.specs.Option.{option_map}
use Rattle.tso_compact.specs.Plans.{kind_of_move, kind_with_buffer, thread_in}
use Rattle.tso_compact.specs.declared.sort.StepKind.{StepKind}
use Rattle.tso_compact.specs.declared.sort.StepKind.TheVariants as kinds
use Rattle.tso_crossing.specs.Moves.{opened_call, parts}
use Rattle.tso_foot.specs.declared.table.ArrayTable.{ArrayTable}
use Rattle.tso_machine.specs.Activations.{Activation}
use Rattle.tso_machine.specs.Instructions.{next_action}
use Rattle.tso_machine.specs.Kinds.{kind_of_action}
use Rattle.tso_machine.specs.Machines.{entry_view}
use Rattle.tso_machine.specs.Programs.{program_of}
use Rattle.tso_machine.specs.declared.kinds.ActionKind.{ActionKind}
use Rattle.tso_machine.specs.declared.kinds.ActionKind.TheVariants as actions
use Rattle.tso_model.specs.Programs as model
use Rattle.tso_model.specs.Prologue.{next_call}
use Rattle.tso_model.specs.States.{Buffer}
use Rattle.tso_move.specs.Own.{extent_of}
use Rattle.tso_move.specs.declared.parts.MoveKind.{MoveKind}
use Rattle.tso_move.specs.declared.parts.MoveKind.TheVariants as moves
use Rattle.tso_prog.specs.declared.client.Client.{Client}
use Rattle.tso_state.specs.Actors.{actor_of}
use Rattle.tso_state.specs.Views.{state_of}
use Rattle.tso_state.specs.declared.actor.Actor.{Actor}
use Rattle.tso_state.specs.declared.actor.Actor.TheVariants.{Exec, Drain}
use Rattle.tso_state.specs.declared.state.Core.{Core}
use Rattle.tso_state.specs.declared.state.Core.TheVariants.{Idle, Running, Stopped}
use Rattle.tso_state.specs.declared.state.State.{State}
use Rattle.tso_state.specs.declared.state.Thread.{Thread}

-- the store buffer of thread i
abbrev pub own_buffer : State → ℕ → Buffer
own_buffer s i = map entry_view (thread_in s i).buffer

-- where the opening of thread i's call leads
abbrev pub opened_in : Client → ArrayTable → State → ℕ → model.CallKind → Activation
opened_in c own s i k = opened_call (program_of c) (extent_of c own) i s.memory (own_buffer s i) k

-- the kinds of the parts of the actor's move, if it has one
abbrev pub part_kinds : Client → ArrayTable → State → Actor → Option (List StepKind)
part_kinds c t s a = option_map (map kind_of_move) (parts (program_of c) (extent_of c t) (state_of s) (actor_of a))

-- of one part
abbrev pub one_kind : StepKind → List StepKind
one_kind kind = kind ∷ []

-- a step is one part, and a call that begins one more
abbrev pub parts_of : MoveKind → List StepKind
parts_of (moves.Step kind) = kind ∷ []
parts_of (moves.Begin None) = kinds.Call ∷ []
parts_of (moves.Begin (Some kind)) = kinds.Call ∷ kind ∷ []

-- of a call that begins, with this buffer, and whose opening stops before an instruction of this kind, if the thread can move
abbrev pub opened_kinds : Buffer → ActionKind → Option (List StepKind)
opened_kinds b actions.Cut = Some (kinds.Call ∷ [])
opened_kinds b kind = option_map (λ x. kinds.Call ∷ x ∷ []) (kind_with_buffer b kind)

-- of thread i, if it begins this call
abbrev pub begun_kinds : Client → ArrayTable → State → ℕ → model.CallKind → Option (List StepKind)
begun_kinds c own s i k = opened_kinds (own_buffer s i) (kind_of_action (next_action c (opened_in c own s i k)))

-- the call that thread i, whose core is this, may begin now
abbrev pub begun_by_core : Client → State → ℕ → Core → Option model.CallKind
begun_by_core c s i Idle = next_call (program_of c) (state_of s) i
begun_by_core c s i (Running frame) = None
begun_by_core c s i Stopped = None

abbrev pub begun_by_thread : Client → State → ℕ → Option Thread → Option model.CallKind
begun_by_thread c s i None = None
begun_by_thread c s i (Some thread) = begun_by_core c s i thread.core

-- the call that the actor's move begins, if it begins one
abbrev pub begun_in : Client → State → Actor → Option model.CallKind
begun_in c s (Exec i) = begun_by_thread c s i (slice_get s.threads i)
begun_in c s (Drain i) = None
