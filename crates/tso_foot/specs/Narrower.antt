-- Tables of intervals that name no arrays but those of tables of arrays.
use Rattle.std.specs.Prelude.{◌≡◌, ℕ, IsTrue, List, Some, slice_get}
use Rattle.tso_cells.specs.Inductive.{IsInductive}
use Rattle.tso_cells.specs.declared.table.Cells.{Cells}
use Rattle.tso_cells.specs.declared.table.IntervalTable.{IntervalTable}
use Rattle.tso_flow.specs.declared.location.ProcedureKind.{ProcedureKind}
use Rattle.tso_foot.specs.Ahead.{cells_at, future_reads, future_writes}
use Rattle.tso_foot.specs.Closed.{IsArrayTableClosed, items_of}
use Rattle.tso_foot.specs.Masks.{has_array, masks_at}
use Rattle.tso_foot.specs.declared.ahead.Access.TheVariants.{Read, Write}
use Rattle.tso_foot.specs.declared.table.ArrayTable.{ArrayTable}
use Rattle.tso_foot.specs.declared.table.Table.TheVariants.{Arrays, Intervals}
use Rattle.tso_prog.specs.declared.client.Client.{Client}
use Rattle.tso_state.specs.WellFormed.{IsWellFormed}
use Rattle.tso_state.specs.declared.state.State.{State}

-- the array of each of these cells is in the mask
abbrev pub AreOf : List Cells → ℕ → Type 0
AreOf cells mask = (n : ℕ) (x : Cells) → slice_get cells n ≡ Some x → IsTrue (has_array mask x.array)

-- at each position the lists of the one name only arrays that the other has there
pub record IsNarrower (t : IntervalTable) (other : ArrayTable) : Type 0 where
  pub reads : (name : ProcedureKind) (i : ℕ) → AreOf (cells_at Read t name i) (masks_at (items_of other name) i).reads
  pub writes : (name : ProcedureKind) (i : ℕ) → AreOf (cells_at Write t name i) (masks_at (items_of other name) i).writes

-- only arrays that every closed table of arrays has there
abbrev pub IsNarrowerThanClosed : Client → IntervalTable → Type 0
IsNarrowerThanClosed c t = (other : ArrayTable) → IsArrayTableClosed c other → IsNarrower t other

-- what thread i may still read and write by the one, it may by the other
pub record ForeseesNoMore (c : Client) (t : IntervalTable) (other : ArrayTable) (s : State) (i place : ℕ) : Type 0 where
  pub reads : IsTrue (future_reads c (Intervals t) s i place) → IsTrue (future_reads c (Arrays other) s i place)
  pub writes : IsTrue (future_writes c (Intervals t) s i place) → IsTrue (future_writes c (Arrays other) s i place)

-- so it is at each well-formed state, where an inductive table names only arrays that the other has
abbrev pub NarrowerForeseesNoMore : Client → Type 0
NarrowerForeseesNoMore c = (t : IntervalTable) (other : ArrayTable) (s : State) (i place : ℕ) → IsInductive c t → IsNarrower t other → IsWellFormed c s → ForeseesNoMore c t other s i place
