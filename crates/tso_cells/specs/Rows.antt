-- Rows of intervals: at each instruction one for each register.
use Rattle.std.specs.Prelude.{◌≡◌, ℕ, ◌<◌, Bool, true, false, List, length, Some, slice_get, sum_by}
use Rattle.tso_cells.specs.Inductive.{AreInside, AreIntervals}
use Rattle.tso_flow.specs.Paths.{goes_on}
use Rattle.tso_cells.specs.Intervals.{all_words}
use Rattle.tso_cells.specs.Moved.{moved}
use Rattle.tso_cells.specs.declared.interval.Interval.{Interval}
use Rattle.tso_line.specs.declared.instruction.Instruction.{Instruction}
use Rattle.tso_cells.specs.Growing.{room}
use Rattle.tso_cells.specs.declared.growing.Growth.{Growth}
use Rattle.tso_cells.specs.declared.growing.Growth.TheVariants.{Whole}

-- the one row has as many intervals as the other, and each lies in that of its place
abbrev pub IsRowInside : List Interval → List Interval → Type 0
IsRowInside xs ys = (length ys ≡ length xs) × AreInside xs ys

abbrev pub AreRowsInside : List (List Interval) → List (List Interval) → Type 0
AreRowsInside before after = (n : ℕ) (xs ys : List Interval) → slice_get before n ≡ Some xs → slice_get after n ≡ Some ys → IsRowInside xs ys

abbrev pub rows_room : List (List Interval) → ℕ
rows_room rows = sum_by (room all_words) rows

-- rows before and after some interval grew, or none
pub record AreRowsGrown (growth : Growth) (before after : List (List Interval)) (is_grown : Bool) : Type 0 where
  pub count : length after ≡ length before
  pub keeps : AreRowsInside before after
  pub fewer : growth ≡ Whole → is_grown ≡ true → rows_room after < rows_room before
  pub same : is_grown ≡ false → after ≡ before

-- fifteen intervals with a word each
abbrev pub IsRow : List Interval → Type 0
IsRow xs = (length xs ≡ 15) × AreIntervals xs

abbrev pub AreRows : List (List Interval) → Type 0
AreRows rows = (n : ℕ) (xs : List Interval) → slice_get rows n ≡ Some xs → IsRow xs

-- what the instruction at i makes of its row lies in the rows of its successors
abbrev pub HasPassed : Instruction ℕ ℕ → ℕ → List (List Interval) → Type 0
HasPassed step i rows =
    (j : ℕ) (xs ys : List Interval) → goes_on step i j ≡ true → slice_get rows i ≡ Some xs → slice_get rows j ≡ Some ys → AreInside (moved xs step) ys

-- the same of the first instructions
abbrev pub ArePassed : List (Instruction ℕ ℕ) → List (List Interval) → ℕ → Type 0
ArePassed steps rows upto = (i : ℕ) (step : Instruction ℕ ℕ) → i < upto → slice_get steps i ≡ Some step → HasPassed step i rows

-- rows of all instructions that hold those that are given, and the first of them another one
pub record AreSettled (steps : List (Instruction ℕ ℕ)) (given : List (List Interval)) (entry : List Interval) (rows : List (List Interval)) : Type 0 where
  pub lengths : length rows ≡ length steps
  pub held : AreRowsInside given rows
  pub first : (xs : List Interval) → slice_get rows 0 ≡ Some xs → IsRowInside entry xs
  pub each : AreRows rows
  pub passed : ArePassed steps rows (length steps)
