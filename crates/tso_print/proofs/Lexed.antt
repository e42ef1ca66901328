-- The tokens of one sign, whatever stands behind it.
use Rattle.std.proofs.Common.{◌≡◌, ℕ, suc, ◌+◌, ◌^◌, ◌<◌, Bool, true, false, not, List, [], ◌∷◌, ◌++◌, length, drop, refl, sym, ap, arith}
use Rattle.std.specs.Prelude.{◌&&◌, ◌||◌, ◌==◌, nat_lt, nat_le, codes}
use Rattle.std.specs.List.{list_all}
use Rattle.std.specs.Char.{is_ascii_digit}
use Rattle.std.specs.Fmt.{decimal}
use Rattle.std.proofs.Math.Seq.{drop-append_seam}
use Rattle.std.proofs.lemmas.Bool.{and_parts, leb-true}
use Rattle.std.proofs.lemmas.Bool.Decides.{nat_tests}
use Rattle.std.proofs.lemmas.Fmt.{decimal_nonempty}
use Rattle.tso_text.specs.declared.token.TokenKind.{TokenKind}
use Rattle.tso_text.specs.declared.token.TokenKind.TheVariants as kinds
use Rattle.tso_text.specs.Lexing.{class_of, continues, is_letter as is_letter_class, first_class, token, tokens_from}
use Rattle.tso_text.proofs.Pieces.{run, after_run, word_piece, number_piece, dotted_piece, single_piece}
use Rattle.tso_line.specs.declared.lexeme.Directive.{Directive}
use Rattle.tso_line.specs.declared.lexeme.Directive.TheVariants as directives
use Rattle.tso_line.specs.Proper.{is_letter, goes_on, is_name}
use Rattle.tso_line.specs.Vocabulary.{keyword_word, directive_word}
use Rattle.tso_print.specs.Signs.{Sign, directive, keyword, name, number, colon, comma, bracket, end_bracket, plus, minus, star, equals, sign_text}
use Rattle.tso_print.proofs.Meant.{has_word, keyword_named}
use Rattle.tso_print.proofs.Digits.{decimal_all}
use Rattle.tso_print.proofs.Names.{name_goes}

-- ---- classes of bytes

-- as the letter a
pub letter_class : (b : ℕ) → is_letter b ≡ true → class_of b ≡ class_of 97
unfolding class_of
letter_class b e =
    let n10 : (b == 10) ≡ false = grind (arith, nat_tests) in
    let n32 : (b == 32) ≡ false = grind (arith, nat_tests) in
    let n9 : (b == 9) ≡ false = grind (arith, nat_tests) in
    let n59 : (b == 59) ≡ false = grind (arith, nat_tests) in
    rw (n10, n32, n9, n59, e) refl

-- as the digit 0
pub digit_class : (b : ℕ) → is_ascii_digit b ≡ true → class_of b ≡ class_of 48
unfolding class_of
digit_class b e =
    let n10 : (b == 10) ≡ false = grind (arith, nat_tests) in
    let n32 : (b == 32) ≡ false = grind (arith, nat_tests) in
    let n9 : (b == 9) ≡ false = grind (arith, nat_tests) in
    let n59 : (b == 59) ≡ false = grind (arith, nat_tests) in
    let none : is_letter b ≡ false = grind (arith, nat_tests) in
    rw (n10, n32, n9, n59, none, e) refl

letter_goes : (b : ℕ) → is_letter b ≡ true → continues (class_of b) ≡ true
unfolding class_of
letter_goes b e = ap continues (letter_class b e)

number_goes : (b : ℕ) → is_ascii_digit b ≡ true → continues (class_of b) ≡ true
unfolding class_of
number_goes b e = ap continues (digit_class b e)

pub goes_class : (b : ℕ) → goes_on b ≡ true → continues (class_of b) ≡ true
goes_class b e = by (is_letter b) refl e
  where
    by : (c : Bool) → is_letter b ≡ c → (c || is_ascii_digit b) ≡ true → continues (class_of b) ≡ true
    by true l e = letter_goes b l
    by false l e = number_goes b e

begins_word : (b : ℕ) (bs : List ℕ) (n : ℕ) → is_letter b ≡ true → n ≡ run bs → (line at : ℕ) → tokens_from line at (b ∷ bs) ≡ after_run kinds.Word line at n bs
unfolding class_of
begins_word b bs n e len line at = word_piece b bs n (letter_class b e) len line at

begins_number : (b : ℕ) (bs : List ℕ) (n : ℕ) → is_ascii_digit b ≡ true → n ≡ run bs → (line at : ℕ) → tokens_from line at (b ∷ bs) ≡ after_run kinds.Number line at n bs
unfolding class_of
begins_number b bs n e len line at = number_piece b bs n (digit_class b e) len line at

begins_directive : (bs : List ℕ) (n : ℕ) → is_letter_class (first_class bs) ≡ true → n ≡ run bs → (line at : ℕ) → tokens_from line at (46 ∷ bs) ≡ after_run kinds.Word line at n bs
unfolding class_of
begins_directive bs n e len line at = dotted_piece 46 bs n refl e len line at

digit_goes : (b : ℕ) → is_ascii_digit b ≡ true → goes_on b ≡ true
digit_goes b e = by (is_letter b) e
  where
    by : (c : Bool) → is_ascii_digit b ≡ true → (c || is_ascii_digit b) ≡ true
    by true e = refl
    by false e = e

pub digits_go : (bs : List ℕ) → list_all is_ascii_digit bs ≡ true → list_all goes_on bs ≡ true
digits_go [] e = refl
digits_go (b ∷ bs) e = let p = and_parts (is_ascii_digit b) (list_all is_ascii_digit bs) e in rw (digit_goes b p.0) (digits_go bs p.1)

-- ---- runs

-- nothing that goes on with a word or a number
abbrev pub stops : List ℕ → Bool
stops rest = not (continues (first_class rest))

not_going : (b : Bool) → not b ≡ true → b ≡ false
not_going true e = absurd cc
not_going false e = refl

run_none : (rest : List ℕ) → stops rest ≡ true → run rest ≡ 0
run_none [] e = refl
run_none (r ∷ rs) e = rw (not_going (continues (class_of r)) e) refl

run_all : (bs rest : List ℕ) → list_all goes_on bs ≡ true → stops rest ≡ true → run (bs ++ rest) ≡ length bs
run_all [] rest e s = run_none rest s
run_all (b ∷ bs) rest e s =
    let p = and_parts (goes_on b) (list_all goes_on bs) e in
    let again = run_all bs rest p.1 s in
    let more : 1 + length bs ≡ suc (length bs) = omega arith in
    rw (goes_class b p.0, again) more

-- ---- words and numbers

-- the text is one token of this kind, where what is behind it does not go on with it
abbrev pub Cut : TokenKind → List ℕ → List ℕ → Type 0
Cut kind text rest = (line at : ℕ) → tokens_from line at (text ++ rest) ≡ token kind line at (at + length text) ∷ tokens_from line (at + length text) rest

run_cut : (kind : TokenKind) (line at b : ℕ) (bs rest : List ℕ) → tokens_from line at (b ∷ (bs ++ rest)) ≡ token kind line at (at + (1 + length bs)) ∷ tokens_from line (at + (1 + length bs)) (drop (length bs) (bs ++ rest))
    → tokens_from line at (b ∷ (bs ++ rest)) ≡ token kind line at (at + suc (length bs)) ∷ tokens_from line (at + suc (length bs)) rest
run_cut kind line at b bs rest e =
    let n : suc (length bs) ≡ 1 + length bs = omega arith in
    rw n (rw drop-append_seam at e)

pub name_cut : (text rest : List ℕ) → is_name text ≡ true → stops rest ≡ true → Cut kinds.Word text rest
unfolding is_name
name_cut [] rest e s line at = absurd cc
name_cut (b ∷ bs) rest e s line at =
    let p = and_parts (is_letter b) (list_all goes_on bs) e in
    run_cut kinds.Word line at b bs rest (begins_word b (bs ++ rest) (length bs) p.0 (sym (run_all bs rest p.1 s)) line at)

digits_cut : (text rest : List ℕ) → 0 < length text → list_all is_ascii_digit text ≡ true → stops rest ≡ true → Cut kinds.Number text rest
digits_cut [] rest lt e s line at = absurd (omega (arith, lt))
digits_cut (b ∷ bs) rest lt e s line at =
    let p = and_parts (is_ascii_digit b) (list_all is_ascii_digit bs) e in
    run_cut kinds.Number line at b bs rest (begins_number b (bs ++ rest) (length bs) p.0 (sym (run_all bs rest (digits_go bs p.1) s)) line at)

pub number_cut : (n : ℕ) (rest : List ℕ) → n < 2 ^ 64 → stops rest ≡ true → Cut kinds.Number (decimal n) rest
number_cut n rest lt s = digits_cut (decimal n) rest (decimal_nonempty n lt) (decimal_all n lt) s

letter_first : (b : ℕ) → is_letter b ≡ true → is_letter_class (class_of b) ≡ true
unfolding class_of
letter_first b e = ap is_letter_class (letter_class b e)

dotted_first : (text rest : List ℕ) → is_name text ≡ true → is_letter_class (first_class (text ++ rest)) ≡ true
unfolding is_name
dotted_first [] rest e = absurd cc
dotted_first (b ∷ bs) rest e = let p = and_parts (is_letter b) (list_all goes_on bs) e in letter_first b p.0

pub dotted_cut : (text rest : List ℕ) → is_name text ≡ true → stops rest ≡ true → Cut kinds.Word (46 ∷ text) rest
dotted_cut text rest e s line at =
    run_cut kinds.Word line at 46 text rest (begins_directive (text ++ rest) (length text) (dotted_first text rest e) (sym (run_all text rest (name_goes text e) s)) line at)

-- ---- signs

abbrev pub kind_of : Sign → TokenKind
kind_of (directive d) = kinds.Word
kind_of (keyword m) = kinds.Word
kind_of (name n) = kinds.Word
kind_of (number n) = kinds.Number
kind_of colon = kinds.Colon
kind_of comma = kinds.Comma
kind_of bracket = kinds.Open
kind_of end_bracket = kinds.Close
kind_of plus = kinds.Plus
kind_of minus = kinds.Minus
kind_of star = kinds.Star
kind_of equals = kinds.Equals

-- a word or a number, which letters and digits behind it would change
abbrev pub is_solid : Sign → Bool
is_solid (directive d) = true
is_solid (keyword m) = true
is_solid (name n) = true
is_solid (number n) = true
is_solid _ = false

-- names are names of at most 32 bytes, and numbers are words of 64 bits
abbrev pub is_sign : Sign → Bool
is_sign (keyword m) = has_word m
is_sign (name n) = is_name n && nat_le (length n) 32
is_sign (number n) = nat_lt n (2 ^ 64)
is_sign _ = true

directive_cut : (d : Directive) (rest : List ℕ) → stops rest ≡ true → Cut kinds.Word (directive_word d) rest
unfolding is_name
directive_cut directives.Capacity rest s = dotted_cut (codes "capacity") rest refl s
directive_cut directives.Mode rest s = dotted_cut (codes "mode") rest refl s
directive_cut directives.Array rest s = dotted_cut (codes "array") rest refl s
directive_cut directives.Push rest s = dotted_cut (codes "push") rest refl s
directive_cut directives.Pop rest s = dotted_cut (codes "pop") rest refl s
directive_cut directives.End rest s = dotted_cut (codes "end") rest refl s
directive_cut directives.Before rest s = dotted_cut (codes "before") rest refl s
directive_cut directives.Thread rest s = dotted_cut (codes "thread") rest refl s

pub sign_cut : (s : Sign) (rest : List ℕ) → is_sign s ≡ true → (is_solid s ≡ true → stops rest ≡ true) → Cut (kind_of s) (sign_text s) rest
unfolding class_of
sign_cut (directive d) rest e stop = directive_cut d rest (stop refl)
sign_cut (keyword m) rest e stop = name_cut (keyword_word m) rest (keyword_named m e) (stop refl)
sign_cut (name n) rest e stop = name_cut n rest (and_parts (is_name n) (nat_le (length n) 32) e).0 (stop refl)
sign_cut (number n) rest e stop = number_cut n rest (leb-true (suc n) (2 ^ 64) e) (stop refl)
sign_cut colon rest e stop = λ line at. single_piece 58 rest kinds.Colon refl line at
sign_cut comma rest e stop = λ line at. single_piece 44 rest kinds.Comma refl line at
sign_cut bracket rest e stop = λ line at. single_piece 91 rest kinds.Open refl line at
sign_cut end_bracket rest e stop = λ line at. single_piece 93 rest kinds.Close refl line at
sign_cut plus rest e stop = λ line at. single_piece 43 rest kinds.Plus refl line at
sign_cut minus rest e stop = λ line at. single_piece 45 rest kinds.Minus refl line at
sign_cut star rest e stop = λ line at. single_piece 42 rest kinds.Star refl line at
sign_cut equals rest e stop = λ line at. single_piece 61 rest kinds.Equals refl line at
