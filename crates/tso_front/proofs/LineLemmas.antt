-- The lines of a text, and the first word of a line.
use Rattle.std.proofs.Common.{◌≡◌, ℕ, ◌+◌, ◌<◌, ◌≤◌, Bool, true, false, cond, List, [], ◌∷◌, length, length-append, length-take, ◌-◌, take, if◌then◌else◌, eqb, drop, refl, sym, ap, ◌∙◌, arith, slice_index_or, zero, suc}
use Rattle.std.specs.Char.{is_ascii_whitespace}
use Rattle.std.proofs.lemmas.List.Sums.{count_by-le-length}
use Rattle.std.specs.Str.{bytes_eq, IsTrimAsciiStart, IsAsciiWhitespaceBelow}
use Rattle.std.proofs.lemmas.List.Splits.{length-slice_split}
use Rattle.tso_front.specs.declared.part.Part.{Part}
use Rattle.tso_front.specs.declared.part.Part.TheVariants.{Mode, Before, Thread, Other}
use Rattle.tso_front.specs.declared.variant.Variant.{Variant}
use Rattle.tso_front.specs.Replaced.{head_line, head_of, lines_of, part_of, without_end, without_indent}

-- ---- the first word

indent_step : (b : ℕ) (bs : List ℕ) (white : Bool) → is_ascii_whitespace b ≡ white → without_indent (b ∷ bs) ≡ cond white (without_indent bs) (b ∷ bs)
indent_step b bs white e = ap (λ (x : Bool). cond x (without_indent bs) (b ∷ bs)) e

indented : (n : ℕ) (line : List ℕ) → IsAsciiWhitespaceBelow line n → (n < length line → is_ascii_whitespace (slice_index_or line n 0) ≡ false) → without_indent line ≡ drop n line
indented zero [] below stops = refl
indented (suc n) [] below stops = refl
indented zero (b ∷ bs) below stops = indent_step b bs false (stops (omega arith))
indented (suc n) (b ∷ bs) below stops =
    indent_step b bs true (below 0 (omega arith))
    ∙ indented n bs (λ i less. below (suc i) (omega arith)) (λ less. stops (omega arith))

-- what stands behind the white space at the start of a line
pub unindented : (line rest : List ℕ) → IsTrimAsciiStart line rest → rest ≡ without_indent line
unindented line rest h = h.1 ∙ sym (indented h.0 line h.3 h.4)

-- ---- how many lines

one_at_most : (v : Variant) (part : Part) (line : List ℕ) → length (head_line v part line) ≤ 1
one_at_most v Mode line = omega arith
one_at_most v Other line = omega arith
one_at_most v Before line = omega arith
one_at_most v Thread line = omega arith

-- a variant leaves no more lines before the calls than there are
pub head_is_short : (v : Variant) (lines : List (List ℕ)) → length (head_of v lines) ≤ length lines
head_is_short v [] = omega arith
head_is_short v (line ∷ lines) =
    omega (arith, length-append (head_line v (part_of line) line) (head_of v lines), one_at_most v (part_of line) line, head_is_short v lines)

without_end_is_short : (text front : List ℕ) (has : Bool) → length front ≤ length text → length (if has then front else text) ≤ length text
without_end_is_short text front true short = short
without_end_is_short text front false short = omega arith

-- a text has at most one line more than it has bytes
pub lines_are_few : (text : List ℕ) → length (lines_of text) ≤ length text + 1
lines_are_few text =
    let is_end = λ (b : ℕ). eqb b 10 in
    omega (
      arith,
      length-slice_split is_end (without_end text),
      count_by-le-length is_end (without_end text),
      without_end_is_short text (take (length text - 1) text) (bytes_eq (drop (length text - 1) text) (10 ∷ [])) (omega (arith, length-take (length text - 1) text)),
    )
