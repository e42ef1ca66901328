-- The tokens of printed lines.
use Rattle.std.proofs.Common.{◌≡◌, ℕ, zero, suc, ◌+◌, Bool, true, false, not, List, [], ◌∷◌, ◌++◌, length, replicate, refl, ap, ◌∙◌, append_assoc, arith}
use Rattle.std.specs.Prelude.{◌&&◌, ◌||◌}
use Rattle.std.proofs.lemmas.Bool.{and_parts}
use Rattle.tso_text.specs.declared.token.Token.{Token}
use Rattle.tso_text.specs.declared.token.TokenKind.TheVariants as kinds
use Rattle.tso_text.specs.Lexing.{class_of, token, tokens_from}
use Rattle.tso_text.proofs.Pieces.{opened}
use Rattle.tso_line.specs.Lexemes.{split_by}
use Rattle.tso_prog.specs.Program.{ends_line}
use Rattle.tso_print.specs.Signs.{Sign, directive, keyword, name, number, colon, comma, bracket, end_bracket, plus, minus, star, equals, sign_text}
use Rattle.tso_print.specs.Pieces.{Piece, spelled, text_of}
use Rattle.tso_print.proofs.Lexed.{stops, kind_of, is_solid, is_sign, sign_cut}

-- ---- pieces

-- no word or number begins here without a space before it
abbrev pub is_apart_at : ℕ → Sign → Bool
is_apart_at zero s = not (is_solid s)
is_apart_at (suc n) s = true

abbrev pub is_apart : List Piece → Bool
is_apart [] = true
is_apart (p ∷ ps) = is_apart_at p.spaces p.sign

-- a sign, apart from what follows where that matters
abbrev pub is_piece : Piece → List Piece → Bool
is_piece p ps = is_sign p.sign && (not (is_solid p.sign) || is_apart ps)

abbrev pub are_pieces : List Piece → Bool
are_pieces [] = true
are_pieces (p ∷ ps) = is_piece p ps && are_pieces ps

-- ---- spaces

space_stops : (bs : List ℕ) → stops (32 ∷ bs) ≡ true
unfolding class_of
space_stops bs = refl

sign_stops : (s : Sign) (rest : List ℕ) → not (is_solid s) ≡ true → stops (sign_text s ++ rest) ≡ true
unfolding class_of
sign_stops (directive d) rest e = absurd cc
sign_stops (keyword m) rest e = absurd cc
sign_stops (name n) rest e = absurd cc
sign_stops (number n) rest e = absurd cc
sign_stops colon rest e = refl
sign_stops comma rest e = refl
sign_stops bracket rest e = refl
sign_stops end_bracket rest e = refl
sign_stops plus rest e = refl
sign_stops minus rest e = refl
sign_stops star rest e = refl
sign_stops equals rest e = refl

piece_stops : (n : ℕ) (s : Sign) (more rest : List ℕ) → is_apart_at n s ≡ true → stops ((replicate n 32 ++ (sign_text s ++ more)) ++ rest) ≡ true
piece_stops zero s more rest e = rw (append_assoc (sign_text s) more rest) (sign_stops s (more ++ rest) e)
piece_stops (suc n) s more rest e = space_stops ((replicate n 32 ++ (sign_text s ++ more)) ++ rest)

pub apart_stops : (ps : List Piece) (rest : List ℕ) → is_apart ps ≡ true → stops rest ≡ true → stops (spelled ps ++ rest) ≡ true
apart_stops [] rest e s = s
apart_stops (p ∷ ps) rest e s = piece_stops p.spaces p.sign (spelled ps) rest e

space_next : (line at : ℕ) (bs : List ℕ) → tokens_from line at (32 ∷ bs) ≡ tokens_from line (at + 1) bs
unfolding class_of
space_next line at bs = opened 32 bs _ refl line at

spaces_next : (n line at : ℕ) (bs : List ℕ) → tokens_from line at (replicate n 32 ++ bs) ≡ tokens_from line (at + n) bs
spaces_next zero line at bs = let e : at ≡ at + 0 = omega arith in ap (λ (k : ℕ). tokens_from line k bs) e
spaces_next (suc n) line at bs =
    let e : at + 1 + n ≡ at + suc n = omega arith in
    space_next line at (replicate n 32 ++ bs) ∙ spaces_next n line (at + 1) bs ∙ ap (λ (k : ℕ). tokens_from line k bs) e

-- ---- lines

abbrev pub sign_start : ℕ → Piece → ℕ
sign_start at p = at + p.spaces

abbrev pub sign_end : ℕ → Piece → ℕ
sign_end at p = sign_start at p + length (sign_text p.sign)

-- the tokens of pieces that stand at this place
abbrev pub piece_tokens : ℕ → ℕ → List Piece → List Token
piece_tokens line at [] = []
piece_tokens line at (p ∷ ps) = token (kind_of p.sign) line (sign_start at p) (sign_end at p) ∷ piece_tokens line (sign_end at p) ps

-- the place behind them
abbrev pub end_of : ℕ → List Piece → ℕ
end_of at [] = at
end_of at (p ∷ ps) = end_of (sign_end at p) ps

regroup : (n : ℕ) (text more rest : List ℕ) → (replicate n 32 ++ (text ++ more)) ++ rest ≡ replicate n 32 ++ (text ++ (more ++ rest))
regroup n text more rest = append_assoc (replicate n 32) (text ++ more) rest ∙ ap (λ (bs : List ℕ). replicate n 32 ++ bs) (append_assoc text more rest)

solid_apart : (b c : Bool) → (not b || c) ≡ true → b ≡ true → c ≡ true
solid_apart true c e f = e
solid_apart false c e f = absurd cc

pub line_tokens : (ps : List Piece) (rest : List ℕ) → are_pieces ps ≡ true → stops rest ≡ true → (line at : ℕ) → tokens_from line at (spelled ps ++ rest) ≡ piece_tokens line at ps ++ tokens_from line (end_of at ps) rest
line_tokens [] rest e s line at = refl
line_tokens (p ∷ ps) rest e s line at =
    let a = and_parts (is_piece p ps) (are_pieces ps) e in
    let b = and_parts (is_sign p.sign) (not (is_solid p.sign) || is_apart ps) a.0 in
    ap (tokens_from line at) (regroup p.spaces (sign_text p.sign) (spelled ps) rest) ∙ spaces_next p.spaces line at (sign_text p.sign ++ (spelled ps ++ rest))
    ∙ sign_cut p.sign (spelled ps ++ rest) b.0 (λ h. apart_stops ps rest (solid_apart (is_solid p.sign) (is_apart ps) b.1 h) s) line (at + p.spaces)
    ∙ ap (λ (ts : List Token). token (kind_of p.sign) line (sign_start at p) (sign_end at p) ∷ ts) (line_tokens ps rest a.1 s line (sign_end at p))

-- ---- texts

newline_stops : (bs : List ℕ) → stops (10 ∷ bs) ≡ true
unfolding class_of
newline_stops bs = refl

newline_next : (line at : ℕ) (bs : List ℕ) → tokens_from line at (10 ∷ bs) ≡ token kinds.Newline line at (at + 1) ∷ tokens_from (line + 1) (at + 1) bs
unfolding class_of
newline_next line at bs = opened 10 bs _ refl line at

-- the tokens of lines that stand at this place
abbrev pub text_tokens : ℕ → ℕ → List (List Piece) → List Token
text_tokens line at [] = []
text_tokens line at (l ∷ ls) = piece_tokens line at l ++ token kinds.Newline line (end_of at l) (end_of at l + 1) ∷ text_tokens (line + 1) (end_of at l + 1) ls

abbrev pub are_lines : List (List Piece) → Bool
are_lines [] = true
are_lines (l ∷ ls) = are_pieces l && are_lines ls

pub tokens_of_text : (ls : List (List Piece)) → are_lines ls ≡ true → (line at : ℕ) → tokens_from line at (text_of ls) ≡ text_tokens line at ls
unfolding tokens_from
tokens_of_text [] e line at = refl
tokens_of_text (l ∷ ls) e line at =
    let a = and_parts (are_pieces l) (are_lines ls) e in
    line_tokens l (10 ∷ text_of ls) a.0 (newline_stops (text_of ls)) line at
    ∙ ap (λ (ts : List Token). piece_tokens line at l ++ ts) (newline_next line (end_of at l) (text_of ls) ∙ ap (λ (ts : List Token). token kinds.Newline line (end_of at l) (end_of at l + 1) ∷ ts) (tokens_of_text ls a.1 (line + 1) (end_of at l + 1)))

-- ---- cutting at the ends of lines

kind_stays : (s : Sign) (line a b : ℕ) → ends_line (token (kind_of s) line a b) ≡ false
kind_stays (directive d) line a b = refl
kind_stays (keyword m) line a b = refl
kind_stays (name n) line a b = refl
kind_stays (number n) line a b = refl
kind_stays colon line a b = refl
kind_stays comma line a b = refl
kind_stays bracket line a b = refl
kind_stays end_bracket line a b = refl
kind_stays plus line a b = refl
kind_stays minus line a b = refl
kind_stays star line a b = refl
kind_stays equals line a b = refl

pub line_cut : (ps : List Piece) (line at n m : ℕ) (ts : List Token) → split_by ends_line (piece_tokens line at ps ++ token kinds.Newline line n m ∷ ts) ≡ piece_tokens line at ps ∷ split_by ends_line ts
unfolding split_by
line_cut [] line at n m ts = refl
line_cut (p ∷ ps) line at n m ts = rw (kind_stays p.sign line (sign_start at p) (sign_end at p), line_cut ps line (sign_end at p) n m ts) refl
