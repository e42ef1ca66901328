-- Marks of states by their numbers.
use Rattle.std.specs.Prelude.{◌≡◌, ◌↔◌, ◌⊎◌, ℕ, Bool, false, IsTrue, List, slice_index_or}

-- the state with this number is marked; past the end of the marks none is
abbrev pub is_marked : List Bool → ℕ → Bool
is_marked marks n = slice_index_or marks n false

-- this number is marked too, and no other
abbrev pub IsMarkedToo : List Bool → List Bool → ℕ → Type 0
IsMarkedToo old new number = (n : ℕ) → IsTrue (is_marked new n) ↔ ((n ≡ number) ⊎ IsTrue (is_marked old n))
