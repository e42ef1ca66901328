-- Cells of memory: the arrays stand one after another, and a cell is its place among all their words.
use Rattle.std.specs.Prelude.{ℕ, ◌+◌, ◌^◌, nat_lt, if◌then◌else◌, List, length, take, sum_by, slice_get, Option, Some, None, ℤ, pos, negsuc, ◌+ℤ◌}
use Rattle.std.specs.List.{flat_map}
use Rattle.tso_line.specs.declared.instruction.Register.{Register}
use Rattle.tso_line.specs.declared.instruction.Address.{Address}
use Rattle.tso_prog.specs.declared.client.Array.{Array}
use Rattle.tso_machine.specs.declared.frame.Frame.{Frame}
use Rattle.tso_machine.specs.Frames.{register_of}

-- what memory holds at first
abbrev pub first_memory : List Array → List ℕ
first_memory arrays = flat_map (λ (a : Array). a.words) arrays

-- the place of an array's first word
abbrev pub first_place : List Array → ℕ → ℕ
first_place arrays number = sum_by (λ (a : Array). length a.words) (take number arrays)

-- the place of a word of an array, if the array has so many; an index is a whole number and never wraps
abbrev pub place_in : Option Array → ℕ → ℤ → Option ℕ
place_in None first index = None
place_in (Some a) first (negsuc k) = None
place_in (Some a) first (pos k) = if nat_lt k (length a.words) then Some (first + k) else None

abbrev pub place_of : List Array → ℕ → ℤ → Option ℕ
place_of arrays number index = place_in (slice_get arrays number) (first_place arrays number) index

-- the place, if it is a number of 64 bits
abbrev pub if_word : Option ℕ → Option ℕ
if_word None = None
if_word (Some place) = if nat_lt place (2 ^ 64) then Some place else None

abbrev pub index_register : Frame → Option Register → ℕ
index_register f None = 0
index_register f (Some r) = register_of f r

-- the index of a memory operand: the unsigned word of its register, if it has one, and its displacement in cells
abbrev pub index_of : Frame → Address ℕ → ℤ
index_of f a = pos (index_register f a.index) +ℤ a.offset

-- the place of a memory operand, if it is inside its array
abbrev pub operand_place : List Array → Frame → Address ℕ → Option ℕ
operand_place arrays f a = place_of arrays a.array (index_of f a)
