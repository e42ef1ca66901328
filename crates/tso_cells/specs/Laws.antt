-- What inductive tables say of frames.
use Rattle.std.specs.Prelude.{◌&&◌, Bool, List, [], length, Option, Some, None, slice_get}
use Rattle.tso_cells.specs.Cells.{has_cell}
use Rattle.tso_cells.specs.Inductive.{IsInductive, items_of, registers_at}
use Rattle.tso_cells.specs.declared.table.Cells.{Cells}
use Rattle.tso_cells.specs.declared.table.IntervalTable.{IntervalTable}
use Rattle.tso_cells.specs.declared.table.Item.{Item}
use Rattle.tso_cells.specs.Intervals.{lie_in}
use Rattle.tso_machine.specs.Activations.{Activation}
use Rattle.tso_machine.specs.Places.{first_memory}
use Rattle.tso_machine.specs.Programs.{program_of}
use Rattle.tso_machine.specs.Soundness.{is_sound_or_past_end, rank}
use Rattle.tso_model.specs.Measure.{IsRanked}
use Rattle.tso_model.specs.Programs.{CallKind}
use Rattle.tso_model.specs.Table as model
use Rattle.tso_prog.specs.declared.client.Client.{Client}

-- the registers of a running call lie in the table's intervals at its position
abbrev pub lies : IntervalTable → Activation → Bool
lies t a = lie_in (registers_at (items_of t a.procedure) a.frame.pc) a.frame.registers

-- the frames that can occur in a call, and whose registers lie there
abbrev pub is_within : Client → IntervalTable → CallKind → Activation → Bool
is_within c t call a = is_sound_or_past_end c call a && lies t a

-- the lists of an item, if there is one
abbrev pub reads_of : Option Item → List Cells
reads_of None = []
reads_of (Some item) = item.reads

abbrev pub writes_of : Option Item → List Cells
writes_of None = []
writes_of (Some item) = item.writes

-- a table as the model's: of a running call it says what the item at the call's position says
abbrev pub table_view : Client → IntervalTable → model.Table Activation
table_view c t = record {
  reads = λ a place. has_cell c.arrays (reads_of (slice_get (items_of t a.procedure) a.frame.pc)) place;
  writes = λ a place. has_cell c.arrays (writes_of (slice_get (items_of t a.procedure) a.frame.pc)) place;
}

-- an inductive table is closed in the model's sense at such frames: it has each access of each instruction, and what may follow
abbrev pub InductiveIsClosed : Client → Type 0
InductiveIsClosed c = (t : IntervalTable) → IsInductive c t → model.IsTableClosed (program_of c) (is_within c t) (table_view c t)

-- such frames lead to such frames of lower rank, and the client's calls begin with them
abbrev pub InductiveIsRanked : Client → Type 0
InductiveIsRanked c = (t : IntervalTable) → IsInductive c t → IsRanked (program_of c) (length (first_memory c.arrays)) (is_within c t) (rank c)
