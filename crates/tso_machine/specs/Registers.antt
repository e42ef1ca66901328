-- Writes of one register or one count.
use Rattle.std.specs.Prelude.{ℕ, ◌<◌, List, length, Option, Some, None, slice_set}
use Rattle.tso_flow.specs.Accesses.{register_number}
use Rattle.tso_line.specs.declared.instruction.Register.{Register}

-- perhaps another word in one register
abbrev pub registers_after : List ℕ → Option (Register × ℕ) → List ℕ
registers_after registers None = registers
registers_after registers (Some w) = slice_set registers (register_number w.0) w.1

-- perhaps another count of one back jump
abbrev pub taken_after : List ℕ → Option (ℕ × ℕ) → List ℕ
taken_after taken None = taken
taken_after taken (Some n) = slice_set taken n.0 n.1

-- the count is there
abbrev pub IsCountOf : List ℕ → Option (ℕ × ℕ) → Type 0
IsCountOf taken None = Unit {0}
IsCountOf taken (Some n) = n.0 < length taken
