-- Lines of a text, and how a line and a mark under it are shown.
use Rattle.std.specs.Prelude.{ℕ, ◌-◌, ◌==◌, Bool, ◌&&◌, ◌||◌, nat_le, if◌then◌else◌, List, ◌++◌, map, replicate, take}
use Rattle.tso_line.specs.Lexemes.{split_by}
use Rattle.tso_source.specs.declared.place.Place.{Place}

abbrev pub is_newline : ℕ → Bool
is_newline b = b == 10

-- what stands between the newlines
abbrev pub lines_of : List ℕ → List (List ℕ)
lines_of text = split_by is_newline text

-- tabs and printable ASCII as they are, any other byte as a question mark
abbrev pub shown_byte : ℕ → ℕ
shown_byte b = if (b == 9) || (nat_le 32 b && nat_le b 126) then b else 63

-- tabs stay tabs
abbrev pub blank_byte : ℕ → ℕ
blank_byte b = if b == 9 then 9 else 32

abbrev pub caret : ℕ
caret = 94

-- blanks up to the place, and then a mark of its length
abbrev pub mark_of : List ℕ → Place → List ℕ
mark_of line place = map blank_byte (take place.start line) ++ replicate (place.end - place.start) caret
