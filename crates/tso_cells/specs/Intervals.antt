-- Intervals of words of 64 bits.
use Rattle.std.specs.Prelude.{ℕ, ◌+◌, ◌-◌, ◌^◌, ◌%◌, ◌≤◌, ◌&&◌, nat_lt, nat_le, if◌then◌else◌, Bool, true, false, List, [], ◌∷◌}
use Rattle.tso_cells.specs.declared.interval.Interval.{Interval}

-- the word, as one of 64 bits, is in the interval
abbrev pub has : Interval → ℕ → Bool
has i w = nat_le i.lo (w % 2 ^ 64) && nat_le (w % 2 ^ 64) i.hi

-- each word is in the interval of its place
abbrev pub lie_in : List Interval → List ℕ → Bool
lie_in [] [] = true
lie_in [] (w ∷ ws) = false
lie_in (i ∷ is) [] = false
lie_in (i ∷ is) (w ∷ ws) = has i w && lie_in is ws

-- each end of the one is in the other
abbrev pub IsInside : Interval → Interval → Type 0
IsInside i j = (j.lo ≤ i.lo) × (i.hi ≤ j.hi)

abbrev pub all_words : Interval
all_words = record { lo = 0; hi = 2 ^ 64 - 1 }

abbrev pub alone : ℕ → Interval
alone w = record { lo = w; hi = w }

-- both ends raised, where neither sum wraps
abbrev pub raised : Interval → ℕ → Interval
raised i n = if nat_lt (i.lo + n) (2 ^ 64) && nat_lt (i.hi + n) (2 ^ 64) then record { lo = i.lo + n; hi = i.hi + n } else all_words

-- from 0 to the lesser of the two greatest words
abbrev pub below_both : Interval → Interval → Interval
below_both i j = record { lo = 0; hi = if nat_le i.hi j.hi then i.hi else j.hi }
