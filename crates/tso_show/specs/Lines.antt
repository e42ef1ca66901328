-- The lines of a text.
use Rattle.std.specs.Prelude.{ℕ, zero, suc, ◌+◌, ◌-◌, ◌==◌, Bool, List, [], take, drop, position, Option, Some, None}
use Rattle.tso_text.specs.Bytes.{newline}

abbrev pub is_newline : ℕ → Bool
is_newline byte = byte == newline

-- what stands before a position, all where there is none
abbrev pub before : Option ℕ → List ℕ → List ℕ
before None text = text
before (Some end) text = take end text

-- what stands behind it
abbrev pub behind : Option ℕ → List ℕ → List ℕ
behind None text = []
behind (Some end) text = drop (end + 1) text

-- what stands before the first newline
abbrev pub first_line : List ℕ → List ℕ
first_line text = before (position is_newline text) text

-- what stands behind it
abbrev pub behind_line : List ℕ → List ℕ
behind_line text = behind (position is_newline text) text

-- what stands behind so many newlines
abbrev pub behind_lines : ℕ → List ℕ → List ℕ
behind_lines zero text = text
behind_lines (suc n) text = behind_line (behind_lines n text)

-- the line of this number, from 1, without its newline
abbrev pub line_text : ℕ → List ℕ → List ℕ
line_text number text = first_line (behind_lines (number - 1) text)
