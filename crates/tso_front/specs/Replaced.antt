-- The text that a variant makes of a program text: line for line what stands before the calls, with the variant's mode, then its prologue,
-- then the text's own lines of calls that stay, and then its threads.
use Rattle.std.specs.Prelude.{ℕ, ◌-◌, Bool, true, false, not, ◌&&◌, ◌||◌, ◌==◌, if◌then◌else◌, List, [], ◌∷◌, ◌++◌, length, take, drop, map, codes, Option, Some, None, is_some}
use Rattle.std.specs.Borrow.{Bor}
use Rattle.std.specs.Char.{is_ascii_alphanumeric, is_ascii_whitespace}
use Rattle.std.specs.List.{flat_map, slice_split, starts_with}
use Rattle.std.specs.Str.{bytes_eq, trim}
use Rattle.tso_front.specs.declared.part.Part.{Part}
use Rattle.tso_front.specs.declared.part.Part.TheVariants.{Mode, Before, Thread, Other}
use Rattle.tso_front.specs.declared.variant.Variant.{Variant}

-- ---- which part of a text a line is

-- a word goes on with this byte
abbrev pub is_word_byte : ℕ → Bool
is_word_byte b = is_ascii_alphanumeric b || (b == 95)

-- a word ends before these bytes
abbrev pub ends_word : List ℕ → Bool
ends_word [] = true
ends_word (b ∷ bs) = not (is_word_byte b)

-- a line without the white space that it begins with
abbrev pub without_indent : List ℕ → List ℕ
without_indent [] = []
without_indent (b ∷ bs) = if is_ascii_whitespace b then without_indent bs else b ∷ bs

-- the first word of a line is this one
abbrev pub begins : List ℕ → List ℕ → Bool
begins word line = starts_with ◌==◌ (without_indent line) word && ends_word (drop (length word) (without_indent line))

abbrev pub part_of : List ℕ → Part
part_of line =
    if begins (codes ".mode") line then Mode
    else (if begins (codes ".before") line then Before
    else (if begins (codes ".thread") line then Thread
    else Other))

-- ---- a text and its lines

-- a text without the end of its last line, if that has one
abbrev pub without_end : List ℕ → List ℕ
without_end text = if bytes_eq (drop (length text - 1) text) (codes "\n") then take (length text - 1) text else text

abbrev pub lines_of : List ℕ → List (List ℕ)
lines_of text = slice_split (λ b. b == 10) (without_end text)

-- a line with its end, and lines one below the other
abbrev pub ended : List ℕ → List ℕ
ended line = line ++ codes "\n"

abbrev pub text_of : List (List ℕ) → List ℕ
text_of lines = flat_map ended lines

-- ---- what the variant has in the place of a line

-- something stands in the place of the text's lines of this part
abbrev pub replaces : Variant → Part → Bool
replaces v Mode = is_some v.mode
replaces v Before = is_some v.before
replaces v Thread = is_some v.client
replaces v Other = false

-- a line of mode, with this mode if there is one
abbrev pub moded : Option (Bor (List ℕ)) → List ℕ → List ℕ
moded None line = line
moded (Some mode) line = codes ".mode " ++ mode.now

-- what is left of a line before the calls, and among the calls
abbrev pub head_line : Variant → Part → List ℕ → List (List ℕ)
head_line v Mode line = moded v.mode line ∷ []
head_line v Before line = []
head_line v Thread line = []
head_line v Other line = line ∷ []

abbrev pub calls_line : Variant → Part → List ℕ → List (List ℕ)
calls_line v Mode line = []
calls_line v Before line = if is_some v.before then [] else line ∷ []
calls_line v Thread line = if is_some v.client then [] else line ∷ []
calls_line v Other line = []

abbrev pub head_of : Variant → List (List ℕ) → List (List ℕ)
head_of v lines = flat_map (λ line. head_line v (part_of line) line) lines

abbrev pub calls_of : Variant → List (List ℕ) → List (List ℕ)
calls_of v lines = flat_map (λ line. calls_line v (part_of line) line) lines

-- ---- the variant's own lines

-- the words of an option, none where it is not given
abbrev pub words_of : Option (Bor (List ℕ)) → List ℕ
words_of None = []
words_of (Some words) = words.now

-- a prologue, where there is a call in it
abbrev pub prologue_line : List ℕ → List (List ℕ)
prologue_line [] = []
prologue_line (b ∷ bs) = (codes ".before " ++ b ∷ bs) ∷ []

abbrev pub prologue_of : Option (Bor (List ℕ)) → List (List ℕ)
prologue_of before = prologue_line (trim (words_of before))

-- a line for each thread: their calls stand between bars
abbrev pub between_bars : List ℕ → List (List ℕ)
between_bars words = slice_split (λ b. b == 124) words

abbrev pub thread_line : List ℕ → List ℕ
thread_line calls = codes ".thread " ++ trim calls

abbrev pub threads_of : Option (Bor (List ℕ)) → List (List ℕ)
threads_of None = []
threads_of (Some client) = map thread_line (between_bars client.now)

-- ---- the text

abbrev pub replaced : Variant → List ℕ → List ℕ
replaced v text = text_of (head_of v (lines_of text) ++ prologue_of v.before ++ calls_of v (lines_of text) ++ threads_of v.client)
