-- The spelling of a table: the version, and lists of items for push and for pop. The version says the form of both.
use Rattle.std.specs.Prelude.{◌≡◌, ℕ, zero, suc, List, [], ◌∷◌, ◌++◌, length, None}
use Rattle.std.specs.List.{AllByRecursion, flat_map}
use Rattle.tso_cells.specs.declared.table.Cells.{Cells}
use Rattle.tso_cells.specs.declared.table.IntervalTable.{IntervalTable}
use Rattle.tso_cells.specs.declared.table.Item.{Item}
use Rattle.tso_foot.specs.declared.masks.Masks.{Masks}
use Rattle.tso_foot.specs.declared.table.ArrayTable.{ArrayTable}
use Rattle.tso_foot.specs.declared.table.Table.{Table}
use Rattle.tso_foot.specs.declared.table.Table.TheVariants.{Arrays, Intervals}
use Rattle.tso_cells.specs.declared.interval.Interval.{Interval}
use Rattle.tso_code.specs.Fields.{at1, at2, at3, items_at, list, list_at, ListFits}
use Rattle.tso_code.specs.Numbers.{Reading, number, IsPlace, IsWord, place_at, word_at}

-- ---- version 1: an item is the mask of reads and the mask of writes, bit k for array k

abbrev pub masks : Masks → List ℕ
masks m = number m.reads ++ number m.writes

unfoldable pub masks_at : Reading Masks
masks_at = at2 (λ reads writes. record { reads = reads; writes = writes }) place_at place_at

abbrev pub MasksFit : Masks → Type 0
MasksFit m = IsPlace m.reads × IsPlace m.writes

abbrev pub array_table : ArrayTable → List ℕ
array_table t = list masks t.push ++ list masks t.pop

unfoldable pub array_table_at : Reading ArrayTable
array_table_at = at2 (λ push pop. record { push = push; pop = pop }) (list_at masks_at) (list_at masks_at)

abbrev pub ArrayTableFits : ArrayTable → Type 0
ArrayTableFits t = ListFits MasksFit t.push × ListFits MasksFit t.pop

-- ---- version 2: an item is fifteen intervals, the list of cells that may be read and the list of those that may be written

-- the least word and the greatest
abbrev pub interval : Interval → List ℕ
interval i = number i.lo ++ number i.hi

unfoldable pub interval_at : Reading Interval
interval_at = at2 (λ lo hi. record { lo = lo; hi = hi }) word_at word_at

abbrev pub IntervalFits : Interval → Type 0
IntervalFits i = IsWord i.lo × IsWord i.hi

-- of the registers, with no count
abbrev pub intervals : List Interval → List ℕ
intervals is = flat_map interval is

unfoldable pub intervals_at : Reading (List Interval)
intervals_at = items_at interval_at 15

abbrev pub IntervalsFit : List Interval → Type 0
IntervalsFit is = (length is ≡ 15) × AllByRecursion IntervalFits is

-- the array, and its first and last cell
abbrev pub cells : Cells → List ℕ
cells c = number c.array ++ (number c.lo ++ number c.hi)

unfoldable pub cells_at : Reading Cells
cells_at = at3 (λ array lo hi. record { array = array; lo = lo; hi = hi }) place_at place_at place_at

abbrev pub CellsFit : Cells → Type 0
CellsFit c = IsPlace c.array × IsPlace c.lo × IsPlace c.hi

abbrev pub item : Item → List ℕ
item x = intervals x.registers ++ (list cells x.reads ++ list cells x.writes)

unfoldable pub item_at : Reading Item
item_at = at3 (λ registers reads writes. record { registers = registers; reads = reads; writes = writes }) intervals_at (list_at cells_at) (list_at cells_at)

abbrev pub ItemFits : Item → Type 0
ItemFits x = IntervalsFit x.registers × ListFits CellsFit x.reads × ListFits CellsFit x.writes

abbrev pub interval_table : IntervalTable → List ℕ
interval_table t = list item t.push ++ list item t.pop

unfoldable pub interval_table_at : Reading IntervalTable
interval_table_at = at2 (λ push pop. record { push = push; pop = pop }) (list_at item_at) (list_at item_at)

abbrev pub IntervalTableFits : IntervalTable → Type 0
IntervalTableFits t = ListFits ItemFits t.push × ListFits ItemFits t.pop

-- ---- of either version

abbrev pub table : Table → List ℕ
table (Arrays t) = 1 ∷ array_table t
table (Intervals t) = 2 ∷ interval_table t

unfoldable pub table_at : Reading Table
table_at [] = None
table_at (zero ∷ rest) = None
table_at (suc zero ∷ rest) = at1 Arrays array_table_at rest
table_at (suc (suc zero) ∷ rest) = at1 Intervals interval_table_at rest
table_at (suc (suc (suc b)) ∷ rest) = None

abbrev pub TableFits : Table → Type 0
TableFits (Arrays t) = ArrayTableFits t
TableFits (Intervals t) = IntervalTableFits t
