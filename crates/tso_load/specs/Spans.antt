-- Parts of a file, one behind another.
use Rattle.std.specs.Prelude.{◌≡◌, ◌+◌, ◌<◌, ◌++◌, ℕ, List, [], ◌∷◌, map, None, Option, Some}
use Rattle.tso_load.specs.declared.span.Span.{Span}

-- the first begins at one place, each other where the one before ends, and the last ends at another place
abbrev pub AreOneBehindAnother : ℕ → List Span → ℕ → Type 0
AreOneBehindAnother start [] end = start ≡ end
AreOneBehindAnother start (span ∷ rest) end = (span.start ≡ start) × AreOneBehindAnother (start + span.most) rest end

-- the parts of a whole file: the first begins at its front, each other where the one before ends, and the last has no end
pub record AreOfWhole (spans : List Span) : Type 0 where
  pub front : List Span
  pub last : Span
  pub all : spans ≡ front ++ last ∷ []
  pub behind : AreOneBehindAnother 0 front last.start
  pub endless : last.most ≡ 18446744073709551615

-- the first begins at the front of the file, and the others just where these places were found
abbrev pub BeginAt : List (Option ℕ) → List Span → Type 0
BeginAt seams spans = map (λ (s : Span). Some s.start) spans ≡ Some 0 ∷ seams

-- each place was found, and is above the one before it, the first above a number
abbrev pub RiseFrom : ℕ → List (Option ℕ) → Type 0
RiseFrom start [] = Unit {0}
RiseFrom start (None ∷ seams) = ⊥
RiseFrom start (Some place ∷ seams) = (start < place) × RiseFrom place seams
