-- A block of bytes, cut into lists at rising ends.
use Rattle.std.specs.Prelude.{◌≡◌, ◌≤◌, ◌<◌, ◌++◌, ◌∷◌, ℕ, zero, suc, List, [], Some, length, slice_get, slice_range}

-- the bytes from each end to the next, where the first list starts at a place
abbrev pub cut : ℕ → List ℕ → List ℕ → List (List ℕ)
cut from [] bytes = []
cut from (end ∷ ends) bytes = slice_range bytes from end ∷ cut end ends bytes

-- the ends rise, from a place to the last of them
abbrev pub IsRising : ℕ → List ℕ → ℕ → Type 0
IsRising from [] last = from ≡ last
IsRising from (end ∷ ends) last = (from ≤ end) × IsRising end ends last

-- where a list starts: at the end before it
abbrev pub start_at : ℕ → List ℕ → ℕ → ℕ
start_at from [] number = from
start_at from (end ∷ ends) zero = from
start_at from (end ∷ ends) (suc number) = start_at end ends number

-- the list with this number is there once more at the end, with a byte behind it
pub record IsLonger (old : List (List ℕ)) (number last : ℕ) (new : List (List ℕ)) : Type 0 where
  pub there : number < length old
  pub added : (list : List ℕ) → slice_get old number ≡ Some list → new ≡ old ++ (list ++ last ∷ []) ∷ []
