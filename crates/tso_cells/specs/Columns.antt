-- Columns: for each array the spans of all instructions, and the lists of cells that they make.
use Rattle.std.specs.Prelude.{◌≡◌, ℕ, ◌+◌, ◌<◌, ◌==◌, nat_le, if◌then◌else◌, Bool, true, zero, suc, List, [], ◌∷◌, ◌++◌, length, Option, None, Some, slice_get}
use Rattle.tso_cells.specs.Cells.{own_reads, own_writes, size_of}
use Rattle.tso_cells.specs.declared.table.Cells.{Cells}
use Rattle.tso_cells.specs.declared.table.Item.{Item}
use Rattle.tso_flow.specs.Paths.{goes_on}
use Rattle.tso_cells.specs.Intervals.{IsInside}
use Rattle.tso_cells.specs.declared.interval.Interval.{Interval}
use Rattle.tso_line.specs.declared.instruction.Instruction.{Instruction}
use Rattle.tso_line.specs.declared.instruction.Instruction.TheVariants as the
use Rattle.tso_prog.specs.declared.client.Array.{Array}
use Rattle.tso_cells.specs.Growing.{empty, interval_at}
use Rattle.tso_cells.specs.Spans.{AreSpans, AreTaken}
use Rattle.tso_cells.specs.declared.access.Access.{Access}
use Rattle.tso_cells.specs.declared.access.Access.TheVariants.{Read, Write}

-- ---- own cells

-- what an instruction itself reads, or writes
abbrev pub own_cells : Access → List Array → List Interval → Instruction ℕ ℕ → List Cells
own_cells Read arrays row step = own_reads arrays row step
own_cells Write arrays row step = own_writes arrays row step

-- the array that an instruction itself reads
abbrev pub read_array : Instruction ℕ ℕ → Option ℕ
read_array (the.Load to from) = Some from.array
read_array (the.Locked operation cell register) = Some cell.array
read_array _ = None

-- the array that it writes
abbrev pub written_array : Instruction ℕ ℕ → Option ℕ
written_array (the.Store to from) = Some to.array
written_array (the.Locked operation cell register) = Some cell.array
written_array _ = None

abbrev pub own_array : Access → Instruction ℕ ℕ → Option ℕ
own_array Read step = read_array step
own_array Write step = written_array step

-- from the first of the cells to the last, if they are of this array
abbrev pub own_span : List Cells → ℕ → Interval
own_span [] array = empty
own_span (c ∷ cs) array = if c.array == array then record { lo = c.lo; hi = c.hi } else empty

-- ---- columns

-- all cells of an array of so many
abbrev pub whole_of_size : ℕ → Interval
whole_of_size zero = empty
whole_of_size (suc n) = record { lo = 0; hi = n }

abbrev pub whole_of : List Array → ℕ → Interval
whole_of arrays array = whole_of_size (size_of (slice_get arrays array))

-- What is needed of positions and arrays: at each instruction the array that it accesses itself, and what is needed at a successor inside the
-- procedure.
pub record IsNeed (own : Instruction ℕ ℕ → Option ℕ) (steps : List (Instruction ℕ ℕ)) (needs : ℕ → ℕ → Bool) : Type 0 where
  pub own_is : (i a : ℕ) (step : Instruction ℕ ℕ) → slice_get steps i ≡ Some step → own step ≡ Some a → needs i a ≡ true
  pub successors : (i j a : ℕ) (step : Instruction ℕ ℕ) → slice_get steps i ≡ Some step → goes_on step i j ≡ true → j < length steps → needs j a ≡ true → needs i a ≡ true

-- the spans of an array: the instructions' own ones
pub record AreOwnSpans (access : Access) (arrays : List Array) (steps : List (Instruction ℕ ℕ)) (rows : List (List Interval)) (array : ℕ) (spans : List Interval) : Type 0 where
  pub count : length spans ≡ length steps
  pub each : (i : ℕ) (step : Instruction ℕ ℕ) (row : List Interval) (s : Interval) → slice_get steps i ≡ Some step → slice_get rows i ≡ Some row → slice_get spans i ≡ Some s
      → s ≡ own_span (own_cells access arrays row step) array

-- the spans of an array, with those of successors
pub record IsColumn (access : Access) (arrays : List Array) (steps : List (Instruction ℕ ℕ)) (rows : List (List Interval)) (array : ℕ) (spans : List Interval) : Type 0 where
  pub count : length spans ≡ length steps
  pub owns : (i : ℕ) (step : Instruction ℕ ℕ) (row : List Interval) (s : Interval) → slice_get steps i ≡ Some step → slice_get rows i ≡ Some row → slice_get spans i ≡ Some s
      → IsInside (own_span (own_cells access arrays row step) array) s
  pub taken : AreTaken steps spans (length steps)
  pub needed : (needs : ℕ → ℕ → Bool) → IsNeed (own_array access) steps needs → AreSpans (whole_of arrays array) (λ i. needs i array) spans

-- a column for each of the first arrays
pub record AreColumns (access : Access) (arrays : List Array) (steps : List (Instruction ℕ ℕ)) (rows : List (List Interval)) (columns : List (List Interval)) : Type 0 where
  pub count : length columns ≡ length arrays
  pub each : (a : ℕ) (spans : List Interval) → slice_get columns a ≡ Some spans → IsColumn access arrays steps rows a spans

-- ---- lists of cells

-- the cells of a span, if there are some
abbrev pub cells_of : ℕ → Interval → List Cells
cells_of array s = if nat_le s.lo s.hi then record { array = array; lo = s.lo; hi = s.hi } ∷ [] else []

-- the cells of the columns at a position, the first column being that of this array
abbrev pub cells_from : ℕ → List (List Interval) → ℕ → List Cells
cells_from array [] i = []
cells_from array (spans ∷ columns) i = cells_of array (interval_at spans i) ++ cells_from (array + 1) columns i

-- items of rows and columns
pub record AreAssembled (rows reads writes : List (List Interval)) (items : List Item) : Type 0 where
  pub count : length items ≡ length rows
  pub each : (i : ℕ) (item : Item) → slice_get items i ≡ Some item
      → (slice_get rows i ≡ Some item.registers) × (item.reads ≡ cells_from 0 reads i) × (item.writes ≡ cells_from 0 writes i)
