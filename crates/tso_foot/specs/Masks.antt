-- Sets of arrays as masks: bit k stands for array k.
use Rattle.std.specs.Prelude.{ℕ, ◌+◌, ◌-◌, ◌^◌, ◌==◌, nat_lt, if◌then◌else◌, ◌&&◌, Bool, false, List, [], ◌∷◌, length, bit_or, Option, Some, None, slice_index_or}
use Rattle.std.specs.Int.{bit_at}
use Rattle.std.specs.Option.{option_map}
use Rattle.tso_foot.specs.declared.masks.Masks.{Masks}
use Rattle.tso_line.specs.declared.instruction.Instruction.{Instruction}
use Rattle.tso_line.specs.declared.instruction.Instruction.TheVariants as the
use Rattle.tso_prog.specs.declared.client.Array.{Array}

-- the mask has array k
abbrev pub has_array : ℕ → ℕ → Bool
has_array mask k = bit_at mask k == 1

-- the mask has each array of the other one
abbrev pub covers : ℕ → ℕ → Bool
covers mask other = bit_or mask other == mask

-- no array
abbrev pub no_masks : Masks
no_masks = record { reads = 0; writes = 0 }

-- the arrays of both
abbrev pub union : Masks → Masks → Masks
union a b = record { reads = bit_or a.reads b.reads; writes = bit_or a.writes b.writes }

-- both masks have those of the others
abbrev pub holds : Masks → Masks → Bool
holds masks others = covers masks.reads others.reads && covers masks.writes others.writes

-- the arrays that an instruction itself reads and writes; a locked one does both
abbrev pub own_masks : Instruction ℕ ℕ → Masks
own_masks (the.Load to from) = record { reads = 2 ^ from.array; writes = 0 }
own_masks (the.Store to from) = record { reads = 0; writes = 2 ^ to.array }
own_masks (the.Locked operation cell register) = record { reads = 2 ^ cell.array; writes = 2 ^ cell.array }
own_masks _ = no_masks

-- the number of the array that has this place of memory, if one has
abbrev pub array_of : List Array → ℕ → Option ℕ
array_of [] place = None
array_of (a ∷ rest) place = if nat_lt place (length a.words) then Some 0 else option_map (λ k. k + 1) (array_of rest (place - length a.words))

-- the mask of one array, if there is one
abbrev pub array_mask : Option ℕ → ℕ
array_mask None = 0
array_mask (Some k) = 2 ^ k

-- the mask has this array, if there is one
abbrev pub has_some : ℕ → Option ℕ → Bool
has_some mask None = false
has_some mask (Some k) = has_array mask k

-- the mask has the array of this place
abbrev pub has_place : List Array → ℕ → ℕ → Bool
has_place arrays mask place = has_some mask (array_of arrays place)

-- the masks at a position; none behind the last item
abbrev pub masks_at : List Masks → ℕ → Masks
masks_at items i = slice_index_or items i no_masks
