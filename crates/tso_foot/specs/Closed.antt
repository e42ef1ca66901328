-- Tables of what may still be read and written from each instruction, and when they are closed.
use Rattle.std.specs.Prelude.{◌≡◌, ℕ, ◌<◌, ◌^◌, List, length, Some, slice_get, IsTrue}
use Rattle.tso_cells.specs.Inductive.{IsInductive}
use Rattle.tso_flow.specs.Paths.{goes_on}
use Rattle.tso_flow.specs.declared.location.ProcedureKind.{ProcedureKind}
use Rattle.tso_flow.specs.declared.location.ProcedureKind.TheVariants as procedures
use Rattle.tso_foot.specs.Masks.{has_array, holds, masks_at, own_masks}
use Rattle.tso_foot.specs.declared.masks.Masks.{Masks}
use Rattle.tso_foot.specs.declared.table.ArrayTable.{ArrayTable}
use Rattle.tso_foot.specs.declared.table.Table.{Table}
use Rattle.tso_foot.specs.declared.table.Table.TheVariants.{Arrays, Intervals}
use Rattle.tso_line.specs.declared.instruction.Instruction.{Instruction}
use Rattle.tso_prog.specs.declared.client.Client.{Client}

-- The item of the instruction at i: no array but the client's, all that the instruction itself reads and writes, and the items of its
-- successors inside the procedure.
pub record IsItem (arrays : ℕ) (items : List Masks) (i : ℕ) (step : Instruction ℕ ℕ) (item : Masks) : Type 0 where
  pub reads : item.reads < 2 ^ arrays
  pub writes : item.writes < 2 ^ arrays
  pub own : IsTrue (holds item (own_masks step))
  pub successors : (j : ℕ) → IsTrue (goes_on step i j) → j < length items → IsTrue (holds item (masks_at items j))

-- an item for each instruction of a procedure
pub record IsListClosed (arrays : ℕ) (steps : List (Instruction ℕ ℕ)) (items : List Masks) : Type 0 where
  pub lengths : length items ≡ length steps
  pub each : (i : ℕ) (step : Instruction ℕ ℕ) (item : Masks) → slice_get steps i ≡ Some step → slice_get items i ≡ Some item → IsItem arrays items i step item

-- the items of a procedure
abbrev pub items_of : ArrayTable → ProcedureKind → List Masks
items_of t procedures.Push = t.push
items_of t procedures.Pop = t.pop

-- a table of arrays is closed for the client: both procedures' items are
pub record IsArrayTableClosed (c : Client) (t : ArrayTable) : Type 0 where
  pub push : IsListClosed (length c.arrays) c.push.instructions t.push
  pub pop : IsListClosed (length c.arrays) c.pop.instructions t.pop

-- each array of the others' items is in these
pub record IsAbove (items others : List Masks) : Type 0 where
  pub reads : (i k : ℕ) → IsTrue (has_array (masks_at others i).reads k) → IsTrue (has_array (masks_at items i).reads k)
  pub writes : (i k : ℕ) → IsTrue (has_array (masks_at others i).writes k) → IsTrue (has_array (masks_at items i).writes k)

-- so it is in both procedures
pub record IsTableAbove (table other : ArrayTable) : Type 0 where
  pub push : IsAbove table.push other.push
  pub pop : IsAbove table.pop other.pop

-- no closed list of items has less than these
abbrev pub IsBelowClosed : ℕ → List (Instruction ℕ ℕ) → List Masks → Type 0
IsBelowClosed arrays steps items = (others : List Masks) → IsListClosed arrays steps others → IsAbove others items

-- ---- tables of either form

-- a table is closed for the client: all that may still be read and written from an instruction is in its item, by arrays; or by cells, where
-- registers lie in intervals, of which it is inductive
abbrev pub IsClosed : Client → Table → Type 0
IsClosed c (Arrays t) = IsArrayTableClosed c t
IsClosed c (Intervals t) = IsInductive c t

-- it is of arrays, and no closed one of the client has less
abbrev pub IsLeastClosed : Client → Table → Type 0
IsLeastClosed c (Arrays t) = (other : ArrayTable) → IsArrayTableClosed c other → IsTableAbove other t
IsLeastClosed c (Intervals t) = ⊥
