-- What a table is to hold, and what its lists may name.
use Rattle.std.specs.Prelude.{◌≡◌, ℕ, ◌≤◌, Bool, true, List, Option, Some, slice_get}
use Rattle.tso_cells.specs.Inductive.{IsListInductive}
use Rattle.tso_cells.specs.declared.table.Cells.{Cells}
use Rattle.tso_cells.specs.declared.table.IntervalTable.{IntervalTable}
use Rattle.tso_cells.specs.declared.table.Item.{Item}
use Rattle.tso_cells.specs.Intervals.{IsInside}
use Rattle.tso_cells.specs.declared.interval.Interval.{Interval}
use Rattle.tso_line.specs.declared.instruction.Instruction.{Instruction}
use Rattle.tso_prog.specs.declared.client.Array.{Array}
use Rattle.tso_prog.specs.declared.client.Client.{Client}
use Rattle.tso_cells.specs.Columns.{IsNeed, read_array, written_array}
use Rattle.tso_cells.specs.Rows.{IsRowInside}
use Rattle.tso_cells.specs.declared.hulls.Hull.{Hull}

-- each interval that is not empty lies in that of its register
abbrev pub IsHeld : List Interval → List Interval → Type 0
IsHeld xs ys = (n : ℕ) (i j : Interval) → slice_get xs n ≡ Some i → slice_get ys n ≡ Some j → i.lo ≤ i.hi → IsInside i j

-- the intervals that are given at each position lie in those of its item
abbrev pub AreHeld : List (List Interval) → List Item → Type 0
AreHeld given items = (n : ℕ) (xs : List Interval) (item : Item) → slice_get given n ≡ Some xs → slice_get items n ≡ Some item → IsHeld xs item.registers

-- the table's intervals hold those of the hull
pub record Holds (t : IntervalTable) (hull : Hull) : Type 0 where
  pub push : AreHeld hull.push t.push
  pub pop : AreHeld hull.pop t.pop

-- cells of items are of arrays that are needed at their instruction, whatever else is needed
abbrev pub AreNeeded : (Instruction ℕ ℕ → Option ℕ) → List (Instruction ℕ ℕ) → (Item → List Cells) → List Item → Type 0
AreNeeded own steps cells items =
    (needs : ℕ → ℕ → Bool) → IsNeed own steps needs → (i n : ℕ) (item : Item) (c : Cells) → slice_get items i ≡ Some item → slice_get (cells item) n ≡ Some c → needs i c.array ≡ true

pub record NamesNeeded (steps : List (Instruction ℕ ℕ)) (items : List Item) : Type 0 where
  pub reads : AreNeeded read_array steps (λ item. item.reads) items
  pub writes : AreNeeded written_array steps (λ item. item.writes) items

-- the lists name only arrays that are needed: those that an instruction accesses itself, and those needed at its successors
pub record NamesOnlyNeeded (c : Client) (t : IntervalTable) : Type 0 where
  pub push : NamesNeeded c.push.instructions t.push
  pub pop : NamesNeeded c.pop.instructions t.pop

-- items of a procedure whose first intervals hold the entry's
pub record AreWidened (arrays : List Array) (steps : List (Instruction ℕ ℕ)) (given : List (List Interval)) (entry : List Interval) (items : List Item) : Type 0 where
  pub inductive : IsListInductive arrays steps items
  pub held : AreHeld given items
  pub needed : NamesNeeded steps items
  pub first : (item : Item) → slice_get items 0 ≡ Some item → IsRowInside entry item.registers
