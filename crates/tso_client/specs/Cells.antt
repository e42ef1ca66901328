-- Cells of arrays and their places in memory.
use Rattle.std.specs.Prelude.{◌≡◌, ℕ, ◌<◌, length, Some, None, slice_get, ℤ, pos, ◌+ℤ◌}
use Rattle.tso_line.specs.declared.instruction.Register.{Register}
use Rattle.tso_prog.specs.declared.client.Array.{Array}
use Rattle.tso_prog.specs.declared.client.Client.{Client}
use Rattle.tso_machine.specs.Frames.{register_of}
use Rattle.tso_machine.specs.Places.{first_memory, operand_place, place_of}
use Rattle.tso_machine.specs.declared.frame.Frame.{Frame}

-- array number n has a word of this number
pub record IsCell (c : Client) (n k : ℕ) : Type 0 where
  pub array : Array
  pub there : slice_get c.arrays n ≡ Some array
  pub inside : k < length array.words

-- exactly the cells have places: a negative index has none
pub record HasPlace (c : Client) (n : ℕ) (z : ℤ) (p : ℕ) : Type 0 where
  pub index : ℕ
  pub is : z ≡ pos index
  pub cell : IsCell c n index

abbrev pub CellsHavePlaces : Client → Type 0
CellsHavePlaces c = (n k : ℕ) → IsCell c n k → (p : ℕ) × (place_of c.arrays n (pos k) ≡ Some p)

abbrev pub PlacesAreOfCells : Client → Type 0
PlacesAreOfCells c = (n : ℕ) (z : ℤ) (p : ℕ) → place_of c.arrays n z ≡ Some p → HasPlace c n z p

-- two cells with one place are one cell
abbrev pub PlacesAreDistinct : Client → Type 0
PlacesAreDistinct c = (n m : ℕ) (y z : ℤ) (p : ℕ) → place_of c.arrays n y ≡ Some p → place_of c.arrays m z ≡ Some p → (n ≡ m) × (y ≡ z)

-- each place in memory is that of a cell
abbrev pub MemoryIsCells : Client → Type 0
MemoryIsCells c = (p : ℕ) → p < length (first_memory c.arrays) → (n : ℕ) × (k : ℕ) × (place_of c.arrays n (pos k) ≡ Some p)

-- and there memory holds at first what the array does
abbrev pub MemoryHoldsArrays : Client → Type 0
MemoryHoldsArrays c = (n k p : ℕ) (a : Array) → slice_get c.arrays n ≡ Some a → place_of c.arrays n (pos k) ≡ Some p → slice_get (first_memory c.arrays) p ≡ slice_get a.words k

-- `[a + r*8 + d]` is the element r + d/8 of the array: its address counts d/8 as `offset`, and the register as an unsigned number
abbrev pub OperandsCount : Client → Type 0
OperandsCount c =
    (f : Frame) (n : ℕ) (r : Register) (offset : ℤ)
    → operand_place c.arrays f (record { array = n; index = Some r; offset = offset }) ≡ place_of c.arrays n (pos (register_of f r) +ℤ offset)

-- `[a + d]` is the element d/8
abbrev pub PlainOperandsCount : Client → Type 0
PlainOperandsCount c = (f : Frame) (n : ℕ) (offset : ℤ) → operand_place c.arrays f (record { array = n; index = None; offset = offset }) ≡ place_of c.arrays n offset
