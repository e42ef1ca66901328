-- Sets of cells of arrays.
use Rattle.std.specs.Prelude.{ℕ, ◌+◌, ◌-◌, ◌==◌, ◌&&◌, nat_lt, nat_le, if◌then◌else◌, Bool, List, [], ◌∷◌, length, Option, Some, None, slice_get, ℤ, pos, negsuc}
use Rattle.std.specs.List.{list_all, list_any}
use Rattle.tso_cells.specs.declared.table.Cells.{Cells}
use Rattle.tso_cells.specs.Intervals.{alone}
use Rattle.tso_cells.specs.Moved.{interval_of}
use Rattle.tso_cells.specs.declared.interval.Interval.{Interval}
use Rattle.tso_line.specs.declared.instruction.Address.{Address}
use Rattle.tso_line.specs.declared.instruction.Instruction.{Instruction}
use Rattle.tso_line.specs.declared.instruction.Instruction.TheVariants as the
use Rattle.tso_line.specs.declared.instruction.Register.{Register}
use Rattle.tso_machine.specs.Places.{first_place}
use Rattle.tso_prog.specs.declared.client.Array.{Array}

-- the place of memory is one of these cells
abbrev pub is_cell : List Array → Cells → ℕ → Bool
is_cell arrays c place = nat_le (first_place arrays c.array + c.lo) place && nat_le place (first_place arrays c.array + c.hi)

-- it is one of some of these
abbrev pub has_cell : List Array → List Cells → ℕ → Bool
has_cell arrays cells place = list_any (λ (c : Cells). is_cell arrays c place) cells

-- the one has all cells of the other
abbrev pub has_all_of : Cells → Cells → Bool
has_all_of d c = d.array == c.array && (nat_le d.lo c.lo && nat_le c.hi d.hi)

-- some of these has all cells of that one
abbrev pub holds : List Cells → Cells → Bool
holds ds c = list_any (λ (d : Cells). has_all_of d c) ds

-- each of those has its cells in one of these
abbrev pub holds_all : List Cells → List Cells → Bool
holds_all ds cs = list_all (λ (c : Cells). holds ds c) cs

-- ---- the cells of a memory operand

-- the interval of the index register; without one the index is 0
abbrev pub index_interval : List Interval → Option Register → Interval
index_interval xs None = alone 0
index_interval xs (Some r) = interval_of xs r

-- the least index that is not below 0
abbrev pub least_index : ℕ → ℤ → ℕ
least_index n (pos k) = n + k
least_index n (negsuc k) = n - (k + 1)

-- the greatest index, if it is not below 0
abbrev pub greatest_index : ℕ → ℤ → Option ℕ
greatest_index n (pos k) = Some (n + k)
greatest_index n (negsuc k) = if nat_lt k n then Some (n - (k + 1)) else None

-- cut to an array of so many words; none where nothing is left
abbrev pub cut : ℕ → ℕ → ℕ → Option ℕ → List Cells
cut array size lo None = []
cut array size lo (Some hi) = if nat_lt lo size && nat_le lo hi then record { array = array; lo = lo; hi = if nat_lt hi size then hi else size - 1 } ∷ [] else []

abbrev pub size_of : Option Array → ℕ
size_of None = 0
size_of (Some a) = length a.words

-- the cells of an operand, where registers lie in these intervals: those of the index interval and the displacement, in whole numbers
abbrev pub operand_cells : List Array → List Interval → Address ℕ → List Cells
operand_cells arrays xs a =
    let i = index_interval xs a.index in cut a.array (size_of (slice_get arrays a.array)) (least_index i.lo a.offset) (greatest_index i.hi a.offset)

-- what an instruction itself reads, and what it writes; a locked one does both
abbrev pub own_reads : List Array → List Interval → Instruction ℕ ℕ → List Cells
own_reads arrays xs (the.Load to from) = operand_cells arrays xs from
own_reads arrays xs (the.Locked operation cell register) = operand_cells arrays xs cell
own_reads arrays xs _ = []

abbrev pub own_writes : List Array → List Interval → Instruction ℕ ℕ → List Cells
own_writes arrays xs (the.Store to from) = operand_cells arrays xs to
own_writes arrays xs (the.Locked operation cell register) = operand_cells arrays xs cell
own_writes arrays xs _ = []
