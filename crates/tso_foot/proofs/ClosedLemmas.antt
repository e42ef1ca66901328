-- Lists of items, one for each instruction.
use Rattle.std.proofs.Common.{◌≡◌, ℕ, ◌+◌, ◌<◌, List, Some, get_or, slice_get, subst, below_more}
use Rattle.std.proofs.lemmas.Option.{get_or_from_slice_get}
use Rattle.tso_foot.specs.Closed.{IsItem}
use Rattle.tso_foot.specs.declared.masks.Masks.{Masks}
use Rattle.tso_line.specs.declared.instruction.Instruction.{Instruction}

-- the items of the first instructions
abbrev pub AreItems : ℕ → List (Instruction ℕ ℕ) → List Masks → ℕ → Type 0
AreItems arrays steps items upto =
    (k : ℕ) (step : Instruction ℕ ℕ) (item : Masks) → k < upto → slice_get steps k ≡ Some step → slice_get items k ≡ Some item → IsItem arrays items k step item

pub one_more : (arrays : ℕ) (steps : List (Instruction ℕ ℕ)) (items : List Masks) (i : ℕ) (d : Instruction ℕ ℕ) (e : Masks)
    → AreItems arrays steps items i → IsItem arrays items i (get_or steps i d) (get_or items i e) → AreItems arrays steps items (i + 1)
one_more arrays steps items i d e before here k step item lt =
    let P : ℕ → Type 0 = λ n. (s : Instruction ℕ ℕ) (m : Masks) → slice_get steps n ≡ Some s → slice_get items n ≡ Some m → IsItem arrays items n s m in
    below_more P i (λ n below s m. before n s m below) (λ s m at is.
    let Q : Instruction ℕ ℕ → Type 0 = λ x. IsItem arrays items i x m in
    let R : Masks → Type 0 = λ x. IsItem arrays items i (get_or steps i d) x in
    subst Q (get_or_from_slice_get steps i s d at) (subst R (get_or_from_slice_get items i m e is) here)) k lt step item
