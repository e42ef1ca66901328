-- Spans: for one array, which of its cells may still be read, or written, from each instruction.
use Rattle.std.specs.Prelude.{◌≡◌, ◌⊎◌, ℕ, ◌<◌, ◌≤◌, ◌^◌, Bool, true, List, length, Option, None, Some, slice_get}
use Rattle.tso_flow.specs.Paths.{goes_on}
use Rattle.tso_cells.specs.Intervals.{IsInside}
use Rattle.tso_cells.specs.declared.interval.Interval.{Interval}
use Rattle.tso_line.specs.declared.instruction.Instruction.{Instruction}
use Rattle.tso_cells.specs.Growing.{empty, interval_at}

-- the span at a position, if there is one
abbrev pub span_if : List Interval → Option ℕ → Interval
span_if spans None = empty
span_if spans (Some j) = interval_at spans j

-- its ends are words
abbrev pub IsSmall : Interval → Type 0
IsSmall i = (i.lo < 2 ^ 64) × (i.hi < 2 ^ 64)

-- nothing, or some of the whole, where the test has it
abbrev pub IsSpan : Interval → Bool → Interval → Type 0
IsSpan whole needed s = (s ≡ empty) ⊎ ((s.lo ≤ s.hi) × IsInside s whole × (needed ≡ true))

abbrev pub AreSpans : Interval → (ℕ → Bool) → List Interval → Type 0
AreSpans whole needs spans = (n : ℕ) (s : Interval) → slice_get spans n ≡ Some s → IsSpan whole (needs n) s

-- the test has at the instruction, at i, what it has at a successor inside the procedure
abbrev pub HandsBack : Instruction ℕ ℕ → ℕ → ℕ → (ℕ → Bool) → Type 0
HandsBack step i count needs = (j : ℕ) → goes_on step i j ≡ true → j < count → needs j ≡ true → needs i ≡ true

abbrev pub AllHandBack : List (Instruction ℕ ℕ) → (ℕ → Bool) → Type 0
AllHandBack steps needs = (i : ℕ) (step : Instruction ℕ ℕ) → slice_get steps i ≡ Some step → HandsBack step i (length steps) needs

-- the span of the instruction, at i, holds those of its successors
abbrev pub HasTaken : Instruction ℕ ℕ → ℕ → List Interval → Type 0
HasTaken step i spans = (j : ℕ) (s t : Interval) → goes_on step i j ≡ true → slice_get spans j ≡ Some s → slice_get spans i ≡ Some t → IsInside s t

-- the same of the first instructions
abbrev pub AreTaken : List (Instruction ℕ ℕ) → List Interval → ℕ → Type 0
AreTaken steps spans upto = (i : ℕ) (step : Instruction ℕ ℕ) → i < upto → slice_get steps i ≡ Some step → HasTaken step i spans
