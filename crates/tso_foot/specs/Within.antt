-- States whose running registers lie where a table says.
use Rattle.std.specs.Prelude.{ℕ, ◌&&◌, Bool, true, IsTrue}
use Rattle.tso_cells.specs.Laws.{lies}
use Rattle.tso_flow.specs.declared.location.ProcedureKind.{ProcedureKind}
use Rattle.tso_foot.specs.declared.table.Table.{Table}
use Rattle.tso_foot.specs.declared.table.Table.TheVariants.{Arrays, Intervals}
use Rattle.tso_machine.specs.Activations.{Activation, activation}
use Rattle.tso_machine.specs.Soundness.{is_sound_or_past_end}
use Rattle.tso_model.specs.Programs.{CallKind}
use Rattle.tso_prog.specs.declared.client.Client.{Client}
use Rattle.tso_state.specs.Views.{running_procedure}
use Rattle.tso_state.specs.WellFormed.{IsThreadAt, calls_by}
use Rattle.tso_state.specs.declared.state.Core.{Core}
use Rattle.tso_state.specs.declared.state.Core.TheVariants.{Idle, Running, Stopped}
use Rattle.tso_state.specs.declared.state.State.{State}
use Rattle.tso_state.specs.declared.state.Thread.{Thread}

-- the registers of a running call lie where the table says; one of arrays says nothing of them
abbrev pub lies_in : Table → Activation → Bool
lies_in (Arrays t) a = true
lies_in (Intervals t) a = lies t a

-- those of a core that runs this procedure, if it runs one
abbrev pub core_lies : Table → ProcedureKind → Core → Bool
core_lies t name Idle = true
core_lies t name (Running f) = lies_in t (activation name f)
core_lies t name Stopped = true

-- those of thread i, if it runs
abbrev pub ThreadLies : Table → State → ℕ → Type 0
ThreadLies t s i = (thread : Thread) → IsThreadAt s i thread → IsTrue (core_lies t (running_procedure (calls_by s i)) thread.core)

-- those of each running thread
abbrev pub IsWithin : Table → State → Type 0
IsWithin t s = (i : ℕ) → ThreadLies t s i

-- the frames that can occur in a call, and whose registers lie there
abbrev pub is_within : Client → Table → CallKind → Activation → Bool
is_within c t call a = is_sound_or_past_end c call a && lies_in t a
