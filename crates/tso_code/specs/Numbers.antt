-- Numbers, seven bits a byte.
use Rattle.std.specs.Prelude.{ℕ, zero, suc, ◌+◌, ◌-◌, ◌*◌, ◌/◌, ◌%◌, ◌^◌, ◌<◌, List, [], ◌∷◌, Option, Some, None, nat_lt, ◌==◌, if◌then◌else◌}

-- a value and the bytes after it, or none where the bytes do not begin with the spelling of one
abbrev pub Reading : Type 0 → Type 0
Reading X = List ℕ → Option (X × List ℕ)

infixl 10 ◌>>=◌
abbrev pub ◌>>=◌ : {A B : Type 0} → Option A → (A → Option B) → Option B
Some x >>= f = f x
None >>= f = None

-- The shortest spelling of a number below 2^64 as unsigned LEB128: seven bits a byte, the low ones first, and 128 is added to
-- each byte but the last.
unfoldable pub digits : ℕ → ℕ → List ℕ
digits zero n = n ∷ []
digits (suc k) n = if nat_lt n 128 then n ∷ [] else ((128 + n % 128) ∷ digits k (n / 128))

unfoldable pub number : ℕ → List ℕ
number n = digits 9 n

-- At most k bytes before the last. No last byte is 0 but that of 0 itself, and the tenth is at most 1.
unfoldable pub digits_at : ℕ → Reading ℕ
digits_at k [] = None
digits_at k (b ∷ rest) =
    if k == 0 then (if nat_lt b 2 then Some (b, rest) else None)
    else (if nat_lt b 128 then Some (b, rest)
    else (if nat_lt b 256 then (digits_at (k - 1) rest >>= λ high. if high.0 == 0 then None else Some ((b - 128) + 128 * high.0, high.1))
    else None))

unfoldable pub number_at : Reading ℕ
number_at bytes = digits_at 9 bytes

-- a number below a limit
unfoldable pub below_at : ℕ → Reading ℕ
below_at limit bytes = do
  n ← number_at bytes
  if nat_lt n.0 limit then Some n else None

-- ---- numbers in their ranges

abbrev pub IsWord : ℕ → Type 0
IsWord n = n < 2 ^ 64

-- positions of instructions, places of memory and masks of arrays
abbrev pub IsPlace : ℕ → Type 0
IsPlace n = n < 2 ^ 16

-- counts of back jumps and of calls
abbrev pub IsCount : ℕ → Type 0
IsCount n = n < 2 ^ 8

abbrev pub word_at : Reading ℕ
word_at = number_at

abbrev pub place_at : Reading ℕ
place_at = below_at (2 ^ 16)

abbrev pub count_at : Reading ℕ
count_at = below_at (2 ^ 8)
