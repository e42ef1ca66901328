-- When a reason holds at a state, for a chosen actor whose step is of this kind, and another thread j.
use Rattle.std.specs.Prelude.{ℕ, ◌==◌, ◌&&◌, ◌||◌, not, Bool, true, false, List, is_none, Option, Some, None, slice_get}
use Rattle.std.specs.List.{list_any}
use Rattle.std.specs.Option.{option_map}
use Rattle.tso_compact.specs.Plans.{kind_of_move, procedure_in, thread_in}
use Rattle.tso_compact.specs.declared.sort.StepKind.{StepKind}
use Rattle.tso_compact.specs.declared.sort.StepKind.TheVariants as kinds
use Rattle.tso_foot.specs.Ahead.{future_reads, future_writes}
use Rattle.tso_foot.specs.declared.table.Table.{Table}
use Rattle.tso_indep.specs.declared.reason.Reason.{Reason}
use Rattle.tso_indep.specs.declared.reason.Reason.TheVariants as reasons
use Rattle.tso_machine.specs.Activations.{Activation, activation}
use Rattle.tso_machine.specs.Instructions.{next_action}
use Rattle.tso_machine.specs.Programs.{program_of}
use Rattle.tso_machine.specs.declared.buffer.Entry.{Entry}
use Rattle.tso_model.specs.Programs as model
use Rattle.tso_model.specs.States.{begun_by}
use Rattle.tso_model.specs.Steps.{move}
use Rattle.tso_prog.specs.declared.client.Client.{Client}
use Rattle.tso_state.specs.Actors.{actor_of, is_drain, thread_of}
use Rattle.tso_state.specs.Views.{state_of}
use Rattle.tso_state.specs.declared.actor.Actor.{Actor}
use Rattle.tso_state.specs.declared.actor.Actor.TheVariants.{Exec, Drain}
use Rattle.tso_state.specs.declared.state.Core.{Core}
use Rattle.tso_state.specs.declared.state.Core.TheVariants.{Idle, Running, Stopped}
use Rattle.tso_state.specs.declared.state.State.{State}
use Rattle.std.specs.Bool.{beq}

-- the kind of the actor's step, if it has one
abbrev pub kind_in : Client → State → Actor → Option StepKind
kind_in c s a = option_map kind_of_move (move (program_of c) (state_of s) (actor_of a))

-- two actors are one
abbrev pub is_actor : Actor → Actor → Bool
is_actor a b = (thread_of a == thread_of b) && beq (is_drain a) (is_drain b)

-- the actor is one of these
abbrev pub is_among : List Actor → Actor → Bool
is_among chosen a = list_any (λ b. is_actor b a) chosen

-- ---- what a step does

-- it touches no memory, and begins and ends no call
abbrev pub is_local : StepKind → Bool
is_local kinds.Local = true
is_local _ = false

abbrev pub is_return : StepKind → Bool
is_return kinds.Return = true
is_return _ = false

abbrev pub is_call : StepKind → Bool
is_call kinds.Call = true
is_call _ = false

-- the place of memory that it reads or writes, if there is one
abbrev pub place_of : StepKind → Option ℕ
place_of (kinds.Load place) = Some place
place_of (kinds.Drain place) = Some place
place_of (kinds.Locked place) = Some place
place_of _ = None

-- ---- what the other thread is at

-- its future writes avoid what a load reads; its future reads and writes avoid what a drain or a locked instruction writes
abbrev pub is_far : (reads writes : ℕ → Bool) → StepKind → Bool
is_far reads writes (kinds.Load place) = not (writes place)
is_far reads writes (kinds.Drain place) = not (reads place) && not (writes place)
is_far reads writes (kinds.Locked place) = not (reads place) && not (writes place)
is_far reads writes _ = false

-- the actor is chosen, or has no step
abbrev pub is_held : Client → State → List Actor → Actor → Bool
is_held c s chosen a = is_among chosen a || is_none (kind_in c s a)

-- an entry of the buffer is for the place
abbrev pub has_entry : List Entry → ℕ → Bool
has_entry buffer place = list_any (λ (e : Entry). e.place == place) buffer

-- the buffer has no entry for the place, if there is one
abbrev pub is_free : List Entry → Option ℕ → Bool
is_free buffer None = true
is_free buffer (Some place) = not (has_entry buffer place)

-- a running call is at the bound of a loop
abbrev pub is_cut : model.Action Activation → Bool
is_cut model.Cut = true
is_cut _ = false

-- thread j, whose core is this, has finished its calls, is stopped, or is cut
abbrev pub is_done : Client → State → ℕ → Core → Bool
is_done c s j Idle = is_none (slice_get (model.calls_of (program_of c) j) (begun_by (state_of s) j))
is_done c s j (Running frame) = is_cut (next_action c (activation (procedure_in s j) frame))
is_done c s j Stopped = true

-- ---- reasons

-- the reason holds at the state for a chosen actor whose step is of this kind, and thread j
abbrev pub is_reason : Client → Table → State → List Actor → StepKind → ℕ → Reason → Bool
is_reason c t s chosen kind j reasons.Own = is_local kind
is_reason c t s chosen kind j reasons.Far = is_far (future_reads c t s j) (future_writes c t s j) kind
is_reason c t s chosen kind j reasons.Inside = is_held c s chosen (Exec j) && is_held c s chosen (Drain j)
is_reason c t s chosen kind j reasons.Buffer = is_among chosen (Exec j) && is_free (thread_in s j).buffer (place_of kind)
is_reason c t s chosen kind j reasons.Return = is_return kind
is_reason c t s chosen kind j reasons.NoReturn = is_call kind && is_done c s j (thread_in s j).core

-- the same, for an actor that has a step of this kind, if it has one
abbrev pub is_reason_if : Client → Table → State → List Actor → Option StepKind → ℕ → Reason → Bool
is_reason_if c t s chosen None j reason = false
is_reason_if c t s chosen (Some kind) j reason = is_reason c t s chosen kind j reason

-- the reason holds at the state, where these actors are chosen, for one of them and thread j
abbrev pub holds : Client → Table → State → List Actor → Actor → ℕ → Reason → Bool
holds c t s chosen a j reason = is_reason_if c t s chosen (kind_in c s a) j reason
