-- Lines of signs, with the spaces between them.
use Rattle.std.specs.Prelude.{ℕ, List, [], ◌∷◌, ◌++◌, replicate}
use Rattle.tso_text.specs.Bytes.{space}
use Rattle.tso_print.specs.Signs.{Sign, sign_text}

-- a sign with so many spaces before it
pub record Piece : Type 0 where
  pub spaces : ℕ
  pub sign : Sign

abbrev pub tight : Sign → Piece
tight sign = record { spaces = 0; sign = sign }

abbrev pub spaced : Sign → Piece
spaced sign = record { spaces = 1; sign = sign }

abbrev pub indented : Sign → Piece
indented sign = record { spaces = 2; sign = sign }

-- the bytes of a line
abbrev pub spelled : List Piece → List ℕ
spelled [] = []
spelled (p ∷ ps) = replicate p.spaces space ++ (sign_text p.sign ++ spelled ps)

-- the bytes of lines, each with its newline
abbrev pub text_of : List (List Piece) → List ℕ
text_of [] = []
text_of (l ∷ ls) = spelled l ++ (10 ∷ text_of ls)
