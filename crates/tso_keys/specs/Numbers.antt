-- A list of values as a row of numbers, after which there is no number.
use Rattle.std.specs.Prelude.{◌≡◌, ℕ, List, [], ◌∷◌, Option, Some, None, slice_get}

-- these numbers are those of the values, and each one after them is the number of nothing
abbrev pub AreNumbersOf : {X : Type 0} → List X → List ℕ → List X → Type 0
AreNumbersOf pool [] [] = Unit {0}
AreNumbersOf pool [] (x ∷ xs) = ⊥
AreNumbersOf pool (n ∷ ns) [] = (n ≡ 4294967295) × AreNumbersOf pool ns []
AreNumbersOf pool (n ∷ ns) (x ∷ xs) = (slice_get pool n ≡ Some x) × AreNumbersOf pool ns xs

-- one of the values has no number
abbrev pub HasNoRow : {X : Type 0} → List X → List X → Type 0
HasNoRow pool xs = (ns : List ℕ) → AreNumbersOf pool ns xs → ⊥

abbrev pub before : {X : Type 0} → Option X → List X → List X
before None xs = []
before (Some x) xs = x ∷ xs

-- the values with these numbers, up to the first that is the number of nothing
abbrev pub values_at : {X : Type 0} → List X → List ℕ → List X
values_at pool [] = []
values_at pool (n ∷ ns) = before (slice_get pool n) (values_at pool ns)
