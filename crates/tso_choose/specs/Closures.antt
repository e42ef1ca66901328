-- Sets of numbers closed under what their members need: a set is a mask, in which bit k stands for number k.
use Rattle.std.specs.Prelude.{◌≡◌, ℕ, ◌==◌, ◌<◌, ◌≤◌, ◌⊎◌, nat_le, if◌then◌else◌, Bool, IsTrue, List, Option, None, Some, count_ones, slice_index_or}
use Rattle.std.specs.Int.{bit_at}

-- the set has number k
abbrev pub has_bit : ℕ → ℕ → Bool
has_bit set k = bit_at set k == 1

-- each number of the first set is in the other
abbrev pub IsIn : ℕ → ℕ → Type 0
IsIn set other = (k : ℕ) → IsTrue (has_bit set k) → IsTrue (has_bit other k)

-- the set that number k needs, in this list; none past its end
abbrev pub needs_at : List ℕ → ℕ → ℕ
needs_at needs k = slice_index_or needs k 0

-- it has all that its members need
abbrev pub IsClosed : List ℕ → ℕ → Type 0
IsClosed needs set = (k : ℕ) → IsTrue (has_bit set k) → IsIn (needs_at needs k) set

-- the least set with the number that has all that its members need
pub record IsClosure (needs : List ℕ) (number set : ℕ) : Type 0 where
  pub has : IsTrue (has_bit set number)
  pub closed : IsClosed needs set
  pub least : (other : ℕ) → IsTrue (has_bit other number) → IsClosed needs other → IsIn set other

-- how many numbers it has
abbrev pub size : ℕ → ℕ
size set = count_ones set

-- the first set of these, which is the closure of number k, goes before the other, which is that of number j: it is smaller, or as large and k
-- is not above j
abbrev pub GoesBefore : ℕ → ℕ → ℕ → ℕ → Type 0
GoesBefore set k other j = (size set < size other) ⊎ ((size set ≡ size other) × (k ≤ j))

-- the smallest of the closures of these numbers, at a tie that of the lowest
pub record IsSmallest (needs : List ℕ) (numbers set : ℕ) : Type 0 where
  pub number : ℕ
  pub has : IsTrue (has_bit numbers number)
  pub closure : IsClosure needs number set
  pub first : (j other : ℕ) → IsTrue (has_bit numbers j) → IsClosure needs j other → GoesBefore set number other j

-- the smaller of two sets, the first at a tie
abbrev pub smaller : Option ℕ → ℕ → ℕ
smaller None other = other
smaller (Some set) other = if nat_le (size set) (size other) then set else other
