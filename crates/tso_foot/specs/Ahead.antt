-- Which places of the memory a thread may still read and write, by a table of either form.
use Rattle.std.specs.Prelude.{◌≡◌, ℕ, ◌==◌, ◌||◌, Bool, false, List, Option, None, Some, slice_get}
use Rattle.std.specs.List.{list_any}
use Rattle.tso_cells.specs.Cells.{has_cell}
use Rattle.tso_cells.specs.Inductive.{items_of}
use Rattle.tso_cells.specs.Laws.{reads_of, writes_of}
use Rattle.tso_cells.specs.declared.table.Cells.{Cells}
use Rattle.tso_cells.specs.declared.table.IntervalTable.{IntervalTable}
use Rattle.tso_flow.specs.Calls.{kind_of}
use Rattle.tso_flow.specs.declared.location.ProcedureKind.{ProcedureKind}
use Rattle.tso_foot.specs.Futures.{calls_to_come, future_masks}
use Rattle.tso_foot.specs.Masks.{has_place}
use Rattle.tso_foot.specs.declared.ahead.Access.{Access}
use Rattle.tso_foot.specs.declared.ahead.Access.TheVariants.{Read, Write}
use Rattle.tso_foot.specs.declared.ahead.ArraysAhead.{ArraysAhead}
use Rattle.tso_foot.specs.declared.ahead.CellsAhead.{CellsAhead}
use Rattle.tso_foot.specs.declared.ahead.Future.{Future}
use Rattle.tso_foot.specs.declared.ahead.Future.TheVariants as futures
use Rattle.tso_foot.specs.declared.table.Table.{Table}
use Rattle.tso_foot.specs.declared.table.Table.TheVariants.{Arrays, Intervals}
use Rattle.tso_line.specs.declared.instruction.CallKind.{CallKind}
use Rattle.tso_machine.specs.declared.buffer.Entry.{Entry}
use Rattle.tso_prog.specs.declared.client.Array.{Array}
use Rattle.tso_prog.specs.declared.client.Client.{Client}
use Rattle.tso_state.specs.Views.{running_procedure}
use Rattle.tso_state.specs.WellFormed.{calls_by}
use Rattle.tso_state.specs.declared.state.Core.{Core}
use Rattle.tso_state.specs.declared.state.Core.TheVariants.{Idle, Running, Stopped}
use Rattle.tso_state.specs.declared.state.State.{State}
use Rattle.tso_state.specs.declared.state.Thread.{Thread}

-- ---- by cells

-- of the item at a position, if there is one, the cells that may still be read from there, or written
abbrev pub cells_at : Access → IntervalTable → ProcedureKind → ℕ → List Cells
cells_at Read t name i = reads_of (slice_get (items_of t name) i)
cells_at Write t name i = writes_of (slice_get (items_of t name) i)

-- they have the place
abbrev pub item_has : Access → List Array → IntervalTable → ProcedureKind → ℕ → ℕ → Bool
item_has access arrays t name i place = has_cell arrays (cells_at access t name i) place

-- those of some of these calls have it, from the first instruction on
abbrev pub calls_have : Access → List Array → IntervalTable → List CallKind → ℕ → Bool
calls_have access arrays t calls place = list_any (λ (k : CallKind). item_has access arrays t (kind_of k) 0 place) calls

-- those of a core that runs this procedure and has these calls still to begin
abbrev pub core_has : Access → List Array → IntervalTable → ProcedureKind → List CallKind → Core → ℕ → Bool
core_has access arrays t name calls Idle place = calls_have access arrays t calls place
core_has access arrays t name calls (Running frame) place = item_has access arrays t name frame.pc place || calls_have access arrays t calls place
core_has access arrays t name calls Stopped place = false

-- an entry of the buffer is for the place
abbrev pub is_buffered : List Entry → ℕ → Bool
is_buffered buffer place = list_any (λ (e : Entry). e.place == place) buffer

-- what waits in a buffer is written, and not read
abbrev pub buffer_has : Access → List Entry → ℕ → Bool
buffer_has Read buffer place = false
buffer_has Write buffer place = is_buffered buffer place

-- a thread: what its core may, and to the writes what is in its buffer
abbrev pub thread_has : Access → List Array → IntervalTable → ProcedureKind → List CallKind → Thread → ℕ → Bool
thread_has access arrays t name calls thread place = core_has access arrays t name calls thread.core place || buffer_has access thread.buffer place

-- thread i of the state, if this is one
abbrev pub thread_has_if : Access → Client → IntervalTable → State → ℕ → Option Thread → ℕ → Bool
thread_has_if access c t s i None place = false
thread_has_if access c t s i (Some thread) place = thread_has access c.arrays t (running_procedure (calls_by s i)) (calls_to_come c s i) thread place

-- ---- by either form

-- thread i of the state may still read the place, by a table: its array is among those that may be read, or the place is among the cells
abbrev pub future_reads : Client → Table → State → ℕ → ℕ → Bool
future_reads c (Arrays t) s i place = has_place c.arrays (future_masks c t s i).reads place
future_reads c (Intervals t) s i place = thread_has_if Read c t s i (slice_get s.threads i) place

-- it may still write it, its buffer's drains included
abbrev pub future_writes : Client → Table → State → ℕ → ℕ → Bool
future_writes c (Arrays t) s i place = has_place c.arrays (future_masks c t s i).writes place
future_writes c (Intervals t) s i place = thread_has_if Write c t s i (slice_get s.threads i) place

-- ---- what was found out of a thread

abbrev pub ahead_has : Access → CellsAhead → ℕ → Bool
ahead_has access a place = thread_has access a.arrays.now a.table.now a.procedure a.calls.now a.thread.now place

abbrev pub may_read : Future → ℕ → Bool
may_read futures.Nothing place = false
may_read (futures.Arrays a) place = has_place a.arrays.now a.masks.reads place
may_read (futures.Cells a) place = ahead_has Read a place

abbrev pub may_write : Future → ℕ → Bool
may_write futures.Nothing place = false
may_write (futures.Arrays a) place = has_place a.arrays.now a.masks.writes place
may_write (futures.Cells a) place = ahead_has Write a place

-- it says what thread i of the state may still read and write
pub record IsFuture (c : Client) (t : Table) (s : State) (i : ℕ) (future : Future) : Type 0 where
  pub reads : (place : ℕ) → may_read future place ≡ future_reads c t s i place
  pub writes : (place : ℕ) → may_write future place ≡ future_writes c t s i place
