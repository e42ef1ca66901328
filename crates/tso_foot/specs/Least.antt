-- How the least closed table is found: each item takes up its own accesses and its successors' items, until none grows.
use Rattle.std.specs.Prelude.{◌≡◌, ℕ, ◌+◌, ◌-◌, ◌<◌, ◌^◌, List, length, Option, None, Some, slice_get, sum_by}
use Rattle.tso_flow.specs.Paths.{next_of, target_of}
use Rattle.tso_foot.specs.Closed.{IsBelowClosed}
use Rattle.tso_foot.specs.Masks.{masks_at, no_masks, own_masks, union}
use Rattle.tso_foot.specs.declared.masks.Masks.{Masks}
use Rattle.tso_line.specs.declared.instruction.Instruction.{Instruction}

-- the item at a position, if there is one
abbrev pub masks_if : List Masks → Option ℕ → Masks
masks_if items None = no_masks
masks_if items (Some j) = masks_at items j

-- the item of the instruction at i with its own accesses and the items of its successors
abbrev pub joined : List Masks → ℕ → Instruction ℕ ℕ → Masks
joined items i step = union (union (union (masks_at items i) (own_masks step)) (masks_if items (next_of step i))) (masks_if items (target_of step))

-- how much the items can still grow
abbrev pub room : List Masks → ℕ
room items = sum_by (λ (m : Masks). 131072 - (m.reads + m.writes)) items

-- no item grows by what it would take up
abbrev pub AreJoined : List (Instruction ℕ ℕ) → List Masks → ℕ → Type 0
AreJoined steps items upto = (i : ℕ) (step : Instruction ℕ ℕ) → i < upto → slice_get steps i ≡ Some step → joined items i step ≡ masks_at items i

-- no item has an array past so many
abbrev pub AreWithin : ℕ → List Masks → Type 0
AreWithin arrays items = (i : ℕ) → (((masks_at items i).reads) < 2 ^ arrays) × (((masks_at items i).writes) < 2 ^ arrays)

-- items on the way to the least closed ones: one for each instruction, with no array past so many, and with nothing that a closed list lacks
pub record IsGrowing (arrays : ℕ) (steps : List (Instruction ℕ ℕ)) (items : List Masks) : Type 0 where
  pub size : length items ≡ length steps
  pub within : AreWithin arrays items
  pub least : IsBelowClosed arrays steps items
