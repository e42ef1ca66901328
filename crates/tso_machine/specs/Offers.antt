-- The label that a thread has next, and the machine after it.
use Rattle.std.specs.Prelude.{◌≡◌, ℕ, Bool, List, Option, Some, None, slice_get, slice_set}
use Rattle.std.specs.Option.{option_map}
use Rattle.tso_machine.specs.Activations.{Activation, activation}
use Rattle.tso_machine.specs.Changes.{thread_after}
use Rattle.tso_machine.specs.Machines.{buffer_view, core_view, kind_view, label_of, machine_of, stage_view, thread_view}
use Rattle.tso_line.specs.declared.instruction.CallKind.{CallKind}
use Rattle.tso_line.specs.declared.instruction.CallKind.TheVariants as calls
use Rattle.tso_machine.specs.Programs.{jump_count, program_of}
use Rattle.tso_machine.specs.declared.change.Change.{Change}
use Rattle.tso_machine.specs.declared.change.Change.TheVariants as changes
use Rattle.tso_flow.specs.declared.location.ProcedureKind.TheVariants as procedures
use Rattle.tso_prog.specs.declared.client.Client.{Client}
use Rattle.tso_machine.specs.declared.label.LabelKind.{LabelKind}
use Rattle.tso_machine.specs.declared.label.LabelKind.TheVariants as kinds
use Rattle.tso_machine.specs.declared.machine.Machine.{Machine}
use Rattle.tso_machine.specs.declared.machine.Thread.{Thread}
use Rattle.tso_machine.specs.declared.offer.Offer.{Offer}
use Rattle.tso_machine.specs.declared.action.Action.{Action}
use Rattle.tso_machine.specs.declared.label.Label.{Label}
use Rattle.tso_machine.specs.declared.machine.Running.{Running}
use Rattle.tso_machine.specs.declared.offer.LockedAction.{LockedAction}
use Rattle.tso_machine.specs.Actions.{meaning}
use Rattle.tso_machine.specs.Instructions.{at_position, exchanged, new_word}
use Rattle.tso_model.specs.Labels.{is_over_in, next_call_in}
use Rattle.tso_model.specs.Prologue.{may_begin}
use Rattle.tso_model.specs.Offers.{Next, actor_of, offer, offer_call, offer_core, offer_entry, offer_locked, offer_outside, offer_running}

-- a drain writes memory
abbrev pub memory_after : LabelKind → List ℕ → List ℕ
memory_after (kinds.Drain place word) memory = slice_set memory place word
memory_after _ memory = memory

-- a lock is taken and freed
abbrev pub lock_after : LabelKind → ℕ → Option ℕ → Option ℕ
lock_after kinds.Lock i lock = Some i
lock_after kinds.Unlock i lock = None
lock_after _ i lock = lock

-- the machine after a step of this kind, with thread i as it is then
abbrev pub performed : Machine → ℕ → LabelKind → Thread → Machine
performed m i kind t = record { memory = memory_after kind m.memory; lock = lock_after kind i m.lock; threads = slice_set m.threads i t }

-- the machine is the one after the step that thread i is offered
abbrev pub Performs : Machine → ℕ → Offer → Machine → Type 0
Performs m i o after = (t : Thread) → slice_get m.threads i ≡ Some t → after ≡ performed m i o.kind (thread_after t o.change)

-- the label and the machine after it, of thread i which is t
abbrev pub next_of : Machine → ℕ → Thread → Offer → Next Activation
next_of m i t o = record { kind = kind_view o.kind; machine = machine_of (performed m i o.kind (thread_after t o.change)) }

-- a call begins: a push with its argument in RDI
abbrev pub begin_of : Client → CallKind → Change
begin_of c (calls.Push v) = changes.Begin procedures.Push v (jump_count c procedures.Push)
begin_of c calls.Pop = changes.Begin procedures.Pop 0 (jump_count c procedures.Pop)

-- whether the calls of a thread need not wait for those of the prologue
abbrev pub may_begin_now : Client → Machine → ℕ → Bool
may_begin_now c m thread = may_begin (program_of c).prologue thread (λ j. is_over_in (program_of c) j (slice_get (machine_of m).threads j))

-- ---- what is offered, as the model has it: the label and the machine after it, or none

abbrev pub next_in : Machine → ℕ → Thread → Option Offer → Option (Next Activation)
next_in m i t offer = option_map (next_of m i t) offer

-- to a call with this action outside locked instructions
abbrev pub next_outside : Machine → ℕ → Thread → Running → Action → Option (Next Activation)
next_outside m i t r action = offer_outside (machine_of m) i (thread_view t) (activation r.procedure r.frame) (meaning r.procedure r.frame action)

-- to a call inside a locked instruction
abbrev pub next_inside : Machine → ℕ → Thread → Running → LockedAction → Option (Next Activation)
next_inside m i t r action =
    offer_locked (machine_of m) i (thread_view t) (activation r.procedure r.frame) (new_word action.operation action.register r.frame) action.place
    (λ old. activation r.procedure (at_position action.next (exchanged action.operation action.register r.frame old))) (stage_view r.stage)

-- to a call
abbrev pub next_running : Client → Machine → ℕ → Thread → Running → Option (Next Activation)
next_running c m i t r = offer_running (program_of c) (machine_of m) i (thread_view t) (activation r.procedure r.frame) (stage_view r.stage)

-- to a thread that is idle
abbrev pub next_idle : Client → Machine → ℕ → Thread → Option (Next Activation)
next_idle c m i t = offer_call (program_of c) (machine_of m) i (thread_view t) (next_call_in (program_of c) (machine_of m) i t.begun)

-- to a thread's core
abbrev pub next_of_core : Client → Machine → ℕ → Thread → Option (Next Activation)
next_of_core c m i t = offer_core (program_of c) (machine_of m) i (thread_view t) (core_view t.core)

-- to a thread's buffer
abbrev pub next_of_buffer : Machine → ℕ → Thread → Option (Next Activation)
next_of_buffer m i t = offer_entry (machine_of m) i (thread_view t) (buffer_view t.buffer)

-- to the core or the buffer that a label speaks of
abbrev pub next_of_actor : Client → Machine → Label → Option (Next Activation)
next_of_actor c m label = offer (program_of c) (machine_of m) (actor_of (label_of label))
