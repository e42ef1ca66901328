-- The text of each token has the shape of its kind.
use Rattle.std.proofs.Common.{◌≡◌, ℕ, suc, ◌+◌, ◌-◌, Bool, true, false, cond, List, [], ◌∷◌, take, drop, refl, sym, ap, ◌∙◌, arith}
use Rattle.std.specs.Prelude.{◌==◌, ◌||◌}
use Rattle.std.specs.Char.{is_ascii_digit, is_ascii_alphabetic}
use Rattle.std.specs.List.{list_all}
use Rattle.std.proofs.lemmas.List.{drop-drop}
use Rattle.tso_text.specs.declared.token.Token.{Token}
use Rattle.tso_text.specs.declared.token.TokenKind.{TokenKind}
use Rattle.tso_text.specs.declared.token.TokenKind.TheVariants as kinds
use Rattle.tso_text.specs.declared.scan.Class.{Class}
use Rattle.tso_text.specs.declared.scan.Class.TheVariants.{Newline, Blank, Comment, Letter, Digit, Dot, Single}
use Rattle.tso_text.specs.Lexing.{class_of, continues, is_letter, first_class, token, with_start, is_newline, from_newline, with_byte, with_first, line_after, tokens_from, goes_on, is_name, has_shape, Shaped}
use Rattle.tso_text.proofs.Pieces.{with_byte_run, run, letter_continues}

-- ---- runs

all_run : (bs : List ℕ) → list_all goes_on (take (run bs) bs) ≡ true
all_run [] = refl
all_run (b ∷ bs) = at (goes_on b) refl (all_run bs)
  where
    at : (c : Bool) → goes_on b ≡ c → list_all goes_on (take (run bs) bs) ≡ true → list_all goes_on (take (cond c (1 + run bs) 0) (b ∷ bs)) ≡ true
    at true e all = let n : 1 + run bs ≡ suc (run bs) = omega arith in rw (n, e) all
    at false e all = refl

name_run : (bs : List ℕ) → is_letter (first_class bs) ≡ true → is_name (take (run bs) bs) ≡ true
name_run [] e = absurd cc
name_run (b ∷ bs) e = at (goes_on b) (letter_continues (class_of b) e)
  where
    at : (c : Bool) → c ≡ true → is_name (take (cond c (1 + run bs) 0) (b ∷ bs)) ≡ true
    at true f = let n : 1 + run bs ≡ suc (run bs) = omega arith in rw (n, e) (all_run bs)
    at false f = absurd cc

-- ---- single bytes

-- a class of a single byte has the kind of one
abbrev is_mark_kind : TokenKind → Bool
is_mark_kind kinds.Word = false
is_mark_kind kinds.Number = false
is_mark_kind _ = true

abbrev is_mark : Class → Bool
is_mark (Single kind) = is_mark_kind kind
is_mark _ = true

some_mark : (b0 b1 b2 b3 b4 b5 b6 b7 b8 b9 b10 b11 b12 b13 : Bool) → is_mark (cond b0 Newline (cond b1 Blank (cond b2 Comment (cond b3 Letter (cond b4 Digit (cond b5 Dot (cond b6 (Single kinds.Colon) (cond b7 (Single kinds.Comma) (cond b8 (Single kinds.Open) (cond b9 (Single kinds.Close) (cond b10 (Single kinds.Plus) (cond b11 (Single kinds.Minus) (cond b12 (Single kinds.Star) (cond b13 (Single kinds.Equals) (Single kinds.Other))))))))))))))) ≡ true
some_mark true _ _ _ _ _ _ _ _ _ _ _ _ _ = refl
some_mark false true _ _ _ _ _ _ _ _ _ _ _ _ = refl
some_mark false false true _ _ _ _ _ _ _ _ _ _ _ = refl
some_mark false false false true _ _ _ _ _ _ _ _ _ _ = refl
some_mark false false false false true _ _ _ _ _ _ _ _ _ = refl
some_mark false false false false false true _ _ _ _ _ _ _ _ = refl
some_mark false false false false false false true _ _ _ _ _ _ _ = refl
some_mark false false false false false false false true _ _ _ _ _ _ = refl
some_mark false false false false false false false false true _ _ _ _ _ = refl
some_mark false false false false false false false false false true _ _ _ _ = refl
some_mark false false false false false false false false false false true _ _ _ = refl
some_mark false false false false false false false false false false false true _ _ = refl
some_mark false false false false false false false false false false false false true _ = refl
some_mark false false false false false false false false false false false false false true = refl
some_mark false false false false false false false false false false false false false false = refl

mark_class : (b : ℕ) → is_mark (class_of b) ≡ true
unfolding class_of
mark_class b = some_mark (b == 10) (b == 32 || b == 9) (b == 59) (is_ascii_alphabetic b || b == 95) (is_ascii_digit b) (b == 46) (b == 58) (b == 44) (b == 91) (b == 93) (b == 43) (b == 45) (b == 42) (b == 61)

mark_shape : (kind : TokenKind) (b : ℕ) → is_mark_kind kind ≡ true → has_shape kind (b ∷ []) ≡ true
mark_shape kinds.Word b e = absurd cc
mark_shape kinds.Number b e = absurd cc
mark_shape kinds.Colon b e = refl
mark_shape kinds.Comma b e = refl
mark_shape kinds.Open b e = refl
mark_shape kinds.Close b e = refl
mark_shape kinds.Plus b e = refl
mark_shape kinds.Minus b e = refl
mark_shape kinds.Star b e = refl
mark_shape kinds.Equals b e = refl
mark_shape kinds.Newline b e = refl
mark_shape kinds.Other b e = refl

-- ---- the first token

one : (text : List ℕ) (kind : TokenKind) (line b : ℕ) (bs : List ℕ) (at : ℕ) (ts : List Token) → drop at text ≡ b ∷ bs → has_shape kind (b ∷ []) ≡ true → Shaped text ts → Shaped text (token kind line at (at + 1) ∷ ts)
one text kind line b bs at ts here shape g =
    let n : at + 1 - at ≡ suc 0 = omega arith in
    rw (n, here) (shape, g)

first_end : List Token → ℕ
first_end [] = 0
first_end (t ∷ ts) = t.end

longer : (text : List ℕ) (kind : TokenKind) (line b : ℕ) (bs : List ℕ) (at n : ℕ) (ts us : List Token) → drop at text ≡ b ∷ bs → with_start kind at ts ≡ token kind line at (at + (1 + n)) ∷ us → has_shape kind (b ∷ take n bs) ≡ true → Shaped text ts → Shaped text (with_start kind at ts)
unfolding first_end
longer text kind line b bs at n [] us here e shape g = absurd cc
longer text kind line b bs at n (t ∷ ts) us here e shape g =
    let end : t.end ≡ at + (1 + n) = ap first_end e in
    let m : t.end - at ≡ suc n = omega arith in
    rw (m, here) (shape, g.1)

with_byte_shaped : (c : Bool) (text : List ℕ) (kind : TokenKind) (line b : ℕ) (bs : List ℕ) (at n : ℕ) (ts us : List Token) → drop at text ≡ b ∷ bs → with_byte c kind line at ts ≡ token kind line at (at + (1 + n)) ∷ us → has_shape kind (b ∷ []) ≡ true → has_shape kind (b ∷ take n bs) ≡ true → Shaped text ts → Shaped text (with_byte c kind line at ts)
with_byte_shaped true text kind line b bs at n ts us here e short long g = longer text kind line b bs at n ts us here e long g
with_byte_shaped false text kind line b bs at n ts us here e short long g = one text kind line b bs at ts here short g

dot_shaped : (c : Bool) (text : List ℕ) (line b : ℕ) (bs : List ℕ) (at n : ℕ) (ts us : List Token) → drop at text ≡ b ∷ bs → (c ≡ true → with_start kinds.Word at ts ≡ token kinds.Word line at (at + (1 + n)) ∷ us) → (c ≡ true → has_shape kinds.Word (b ∷ take n bs) ≡ true) → Shaped text ts → Shaped text (cond c (with_start kinds.Word at ts) (token kinds.Other line at (at + 1) ∷ ts))
dot_shaped true text line b bs at n ts us here e long g = longer text kinds.Word line b bs at n ts us here (e refl) (long refl) g
dot_shaped false text line b bs at n ts us here e long g = one text kinds.Other line b bs at ts here refl g

rest_shaped : (text : List ℕ) (ts : List Token) → Shaped text ts → Shaped text (from_newline ts)
rest_shaped text [] g = g
rest_shaped text (t ∷ ts) g = at (is_newline t.kind) (rest_shaped text ts g.1)
  where
    at : (c : Bool) → Shaped text (from_newline ts) → Shaped text (cond c (t ∷ ts) (from_newline ts))
    at true rest = g
    at false rest = rest

-- ---- each token

first_shaped : (k : Class) (text : List ℕ) (b : ℕ) (bs : List ℕ) (line at : ℕ) → class_of b ≡ k → drop at text ≡ b ∷ bs
    → let ts = tokens_from (line_after k line) (at + 1) bs in Shaped text ts → Shaped text (with_first k (first_class bs) line at ts)
first_shaped Newline text b bs line at e here g = one text kinds.Newline line b bs at (tokens_from (line + 1) (at + 1) bs) here refl g
first_shaped Blank text b bs line at e here g = g
first_shaped Comment text b bs line at e here g = rest_shaped text (tokens_from line (at + 1) bs) g
first_shaped Letter text b bs line at e here g =
    with_byte_shaped (continues (first_class bs)) text kinds.Word line b bs at (run bs) (tokens_from line (at + 1) bs) _ here (with_byte_run kinds.Word line at bs) (rw e refl) (rw (e, all_run bs) refl) g
first_shaped Digit text b bs line at e here g =
    with_byte_shaped (continues (first_class bs)) text kinds.Number line b bs at (run bs) (tokens_from line (at + 1) bs) _ here (with_byte_run kinds.Number line at bs) (rw e refl) (rw (e, all_run bs) refl) g
first_shaped Dot text b bs line at e here g =
    dot_shaped (is_letter (first_class bs)) text line b bs at (run bs) (tokens_from line (at + 1) bs) _ here
    (λ l. ap (λ (c : Bool). with_byte c kinds.Word line at (tokens_from line (at + 1) bs)) (sym (letter_continues (first_class bs) l)) ∙ with_byte_run kinds.Word line at bs)
    (λ l. rw (e, name_run bs l) refl) g
first_shaped (Single kind) text b bs line at e here g =
    one text kind line b bs at (tokens_from line (at + 1) bs) here (mark_shape kind b (sym (ap is_mark e) ∙ mark_class b)) g

next_place : (text : List ℕ) (b : ℕ) (bs : List ℕ) (at : ℕ) → drop at text ≡ b ∷ bs → drop (at + 1) text ≡ bs
next_place text b bs at here = sym (drop-drop 1 at text) ∙ ap (λ (xs : List ℕ). drop 1 xs) here

shaped_from : (text bs : List ℕ) (line at : ℕ) → drop at text ≡ bs → Shaped text (tokens_from line at bs)
unfolding tokens_from
shaped_from text [] line at here = tt
shaped_from text (b ∷ bs) line at here =
    first_shaped (class_of b) text b bs line at refl here (shaped_from text bs (line_after (class_of b) line) (at + 1) (next_place text b bs at here))

pub tokens_shaped : (text : List ℕ) (line : ℕ) → Shaped text (tokens_from line 0 text)
tokens_shaped text line = shaped_from text text line 0 refl
