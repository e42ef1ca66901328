-- Hulls in which the running registers of states were seen. Nothing here need be believed: it serves the code, but for the last definition.
use Rattle.std.specs.Prelude.{◌≡◌, ℕ, IsTrue, List, length, Some, slice_get}
use Rattle.tso_flow.specs.declared.location.ProcedureKind.{ProcedureKind}
use Rattle.tso_foot.specs.Within.{IsWithin}
use Rattle.tso_foot.specs.declared.table.Table.{Table}
use Rattle.tso_cells.specs.Intervals.{lie_in}
use Rattle.tso_cells.specs.declared.interval.Interval.{Interval}
use Rattle.tso_machine.specs.declared.frame.Frame.{Frame}
use Rattle.tso_state.specs.Views.{running_procedure}
use Rattle.tso_state.specs.WellFormed.{IsThreadAt, calls_by}
use Rattle.tso_state.specs.declared.state.Core.{Core}
use Rattle.tso_state.specs.declared.state.Core.TheVariants.{Idle, Running, Stopped}
use Rattle.tso_state.specs.declared.state.State.{State}
use Rattle.tso_state.specs.declared.state.Thread.{Thread}
use Rattle.tso_cells.specs.Hulls.{KeepsWords, rows_of}
use Rattle.tso_cells.specs.declared.hulls.Hull.{Hull}

-- the words of its fifteen registers lie in the row at its position, if there is one
pub record IsSeen (hull : Hull) (name : ProcedureKind) (f : Frame) : Type 0 where
  pub count : length f.registers ≡ 15
  pub lie : (row : List Interval) → slice_get (rows_of hull name) f.pc ≡ Some row → IsTrue (lie_in row f.registers)

-- a core that runs this procedure was seen, if it runs one
abbrev pub CoreIsSeen : Hull → ProcedureKind → Core → Type 0
CoreIsSeen hull name Idle = Unit {0}
CoreIsSeen hull name (Running f) = IsSeen hull name f
CoreIsSeen hull name Stopped = Unit {0}

abbrev pub ThreadIsSeen : Hull → State → ℕ → Type 0
ThreadIsSeen hull s i = (thread : Thread) → IsThreadAt s i thread → CoreIsSeen hull (running_procedure (calls_by s i)) thread.core

abbrev pub StateIsSeen : Hull → State → Type 0
StateIsSeen hull s = (i : ℕ) → ThreadIsSeen hull s i

abbrev pub AreSeen : Hull → List State → Type 0
AreSeen hull states = (k : ℕ) (s : State) → slice_get states k ≡ Some s → StateIsSeen hull s

-- what was seen stays so
abbrev pub Keeps : Hull → Hull → Type 0
Keeps before after = (name : ProcedureKind) → KeepsWords (rows_of before name) (rows_of after name)

-- the running registers of each of these states lie where the table says
abbrev pub AreWithin : Table → List State → Type 0
AreWithin t states = (k : ℕ) (s : State) → slice_get states k ≡ Some s → IsWithin t s
