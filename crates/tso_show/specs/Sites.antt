-- The instruction that a thread's frame is at, and its line.
use Rattle.std.specs.Prelude.{ℕ, Bool, true, false, if◌then◌else◌, Option, Some, None, slice_get}
use Rattle.std.specs.Option.{option_map}
use Rattle.tso_flow.specs.Calls.{procedure_of_kind}
use Rattle.tso_flow.specs.declared.location.ProcedureKind.{ProcedureKind}
use Rattle.tso_machine.specs.declared.label.Label.{Label}
use Rattle.tso_machine.specs.declared.label.LabelKind.{LabelKind}
use Rattle.tso_machine.specs.declared.label.LabelKind.TheVariants as kinds
use Rattle.tso_machine.specs.declared.machine.Core.{Core}
use Rattle.tso_machine.specs.declared.machine.Core.TheVariants as cores
use Rattle.tso_machine.specs.declared.machine.Machine.{Machine}
use Rattle.tso_machine.specs.declared.machine.Thread.{Thread}
use Rattle.tso_prog.specs.declared.client.Client.{Client}
use Rattle.tso_show.specs.declared.site.Site.{Site}

-- the instruction at a position of a procedure, with its line
abbrev pub site_at : Client → ProcedureKind → ℕ → Option Site
site_at c procedure position =
    option_map (λ (line : ℕ). record { procedure = procedure; position = position; line = line }) (slice_get (procedure_of_kind c procedure).lines position)

-- the one that the frame is at
abbrev pub core_site : Client → Core → Option Site
core_site c (cores.Running r) = site_at c r.procedure r.frame.pc
core_site c _ = None

-- calls begin without an instruction, and a buffer drains without one
abbrev pub is_of_instruction : LabelKind → Bool
is_of_instruction (kinds.Call kind) = false
is_of_instruction (kinds.Drain place word) = false
is_of_instruction _ = true

abbrev pub thread_site : Client → Option Thread → Option Site
thread_site c None = None
thread_site c (Some t) = core_site c t.core

-- the instruction that the frame of the label's thread is at
abbrev pub taker : Client → Machine → Label → Option Site
taker c m l = if is_of_instruction l.kind then thread_site c (slice_get m.threads l.thread) else None
