-- A text that lies in several parts, one behind another.
use Rattle.std.specs.Prelude.{ℕ, List, [], ◌∷◌, ◌++◌}

-- a first part, and what lies behind it
abbrev pub text_of : List ℕ → List (List ℕ) → List ℕ
text_of first [] = first
text_of first (second ∷ more) = first ++ text_of second more

-- all parts, put together
abbrev pub whole_of : List (List ℕ) → List ℕ
whole_of [] = []
whole_of (first ∷ more) = text_of first more
