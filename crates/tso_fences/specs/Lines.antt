-- Lines of a text, and texts that have other lines, or more.
use Rattle.std.specs.Prelude.{ℕ, ◌-◌, ◌==◌, Bool, List, [], ◌∷◌, ◌++◌, drop, take}
use Rattle.std.specs.List.{flat_map, insert}
use Rattle.tso_line.specs.Lexemes.{split_by}

abbrev pub is_newline : ℕ → Bool
is_newline b = b == 10

-- what stands between the newlines
abbrev pub lines_of : List ℕ → List (List ℕ)
lines_of text = split_by is_newline text

abbrev pub behind_newline : List ℕ → List ℕ
behind_newline line = 10 ∷ line

-- the text of lines, with a newline between two
abbrev pub text_of : List (List ℕ) → List ℕ
text_of lines = drop 1 (flat_map behind_newline lines)

-- others in place of the line with this number, from 1
abbrev pub replaced : List (List ℕ) → ℕ → List (List ℕ) → List (List ℕ)
replaced lines number others = take (number - 1) lines ++ others ++ drop number lines

-- one line more, behind the line with this number
abbrev pub with_behind : List (List ℕ) → ℕ → List ℕ → List (List ℕ)
with_behind lines number line = insert lines number line

-- the same behind each of these, from the last to the first
abbrev pub with_all_behind : List (List ℕ) → List ℕ → List ℕ → List (List ℕ)
with_all_behind lines [] line = lines
with_all_behind lines (number ∷ numbers) line = with_behind (with_all_behind lines numbers line) number line
