-- The lexemes of printed lines, and the lines that they make.
use Rattle.std.proofs.Common.{◌≡◌, ℕ, suc, ◌+◌, ◌-◌, ◌^◌, ◌<◌, true, false, List, [], ◌∷◌, ◌++◌, length, drop, replicate, map, refl, sym, ap, subst, ◌∙◌, append_assoc, arith}
use Rattle.std.specs.Prelude.{◌==◌, nat_le}
use Rattle.std.specs.List.{list_all, flat_map}
use Rattle.std.proofs.Math.Seq.{drop-append_seam, take-append_seam}
use Rattle.std.proofs.lemmas.Bool.{and_parts, and_from, le-leb, leb-true}
use Rattle.std.proofs.lemmas.Bool.Decides.{nat_tests}
use Rattle.std.proofs.lemmas.List.{drop-drop, length-append, length-replicate}
use Rattle.tso_text.specs.declared.token.Token.{Token}
use Rattle.tso_text.specs.Lexing.{tokens_of}
use Rattle.tso_line.specs.declared.lexeme.Ranged.TheVariants.{Within}
use Rattle.tso_line.specs.declared.lexeme.Span.{Span}
use Rattle.tso_line.specs.declared.lexeme.Lexeme.{Lexeme}
use Rattle.tso_line.specs.declared.lexeme.Lexeme.TheVariants as lexemes
use Rattle.tso_line.specs.Forms.{text_at}
use Rattle.tso_line.specs.Lexemes.{split_by}
use Rattle.tso_line.specs.Lines.{Line}
use Rattle.tso_line.specs.Proper.{is_letter, goes_on, is_name}
use Rattle.tso_line.specs.Reading.{line_of}
use Rattle.tso_line.specs.Words.{meaning_of, word_of_text, by_kind, lexeme_of}
use Rattle.tso_prog.specs.Program.{ends_line, Numbered, numbered, lines_of}
use Rattle.tso_line.specs.Vocabulary.{keyword_word}
use Rattle.tso_print.specs.Signs.{Sign, directive, keyword, name, number, colon, comma, bracket, end_bracket, plus, minus, star, equals, sign_text}
use Rattle.tso_print.specs.Pieces.{Piece, spelled, text_of}
use Rattle.tso_print.proofs.Digits.{number_read}
use Rattle.tso_print.proofs.Meant.{keyword_meant, keyword_named, directive_meant}
use Rattle.tso_print.proofs.Lexed.{kind_of, is_sign}
use Rattle.tso_print.proofs.Tokens.{is_piece, are_pieces, sign_start, sign_end, piece_tokens, end_of, text_tokens, are_lines, tokens_of_text, line_cut}

-- ---- the lexeme of a sign

abbrev pub sign_lexeme : Span → Sign → Lexeme
sign_lexeme s (directive d) = lexemes.Directive d
sign_lexeme s (keyword m) = lexemes.Word s m
sign_lexeme s (name n) = lexemes.Word s (meaning_of n)
sign_lexeme s (number n) = lexemes.Number (Within n)
sign_lexeme s colon = lexemes.Colon
sign_lexeme s comma = lexemes.Comma
sign_lexeme s bracket = lexemes.Open
sign_lexeme s end_bracket = lexemes.Close
sign_lexeme s plus = lexemes.Plus
sign_lexeme s minus = lexemes.Minus
sign_lexeme s star = lexemes.Star
sign_lexeme s equals = lexemes.Equals

not_dot : (b : ℕ) → is_letter b ≡ true → (b == 46) ≡ false
not_dot b e = grind (arith, nat_tests)

name_first : (b : ℕ) (bs : List ℕ) → is_name (b ∷ bs) ≡ true → is_letter b ≡ true
unfolding is_name
name_first b bs e = (and_parts (is_letter b) (list_all goes_on bs) e).0

name_read : (s : Span) (text : List ℕ) → is_name text ≡ true → word_of_text s text ≡ lexemes.Word s (meaning_of text)
unfolding word_of_text
name_read s [] e = rw e refl
name_read s (b ∷ bs) e = rw (not_dot b (name_first b bs e), e) refl

sign_read : (s : Sign) (source : List ℕ) (span : Span) → is_sign s ≡ true → text_at source span ≡ sign_text s → by_kind source span (kind_of s) ≡ sign_lexeme span s
sign_read (directive d) source span e t = ap (word_of_text span) t ∙ directive_meant span d
sign_read (keyword m) source span e t = ap (word_of_text span) t ∙ name_read span (keyword_word m) (keyword_named m e) ∙ ap (lexemes.Word span) (keyword_meant m e)
sign_read (name n) source span e t = ap (word_of_text span) t ∙ name_read span n (and_parts (is_name n) (nat_le (length n) 32) e).0
sign_read (number n) source span e t = rw t (number_read n (leb-true (suc n) (2 ^ 64) e))
sign_read colon source span e t = refl
sign_read comma source span e t = refl
sign_read bracket source span e t = refl
sign_read end_bracket source span e t = refl
sign_read plus source span e t = refl
sign_read minus source span e t = refl
sign_read star source span e t = refl
sign_read equals source span e t = refl

-- ---- where pieces stand

-- these bytes are the last of the source, from this place on
pub record Here (source : List ℕ) (at : ℕ) (bytes : List ℕ) : Type 0 where
  pub drops : drop at source ≡ bytes
  pub ends : at + length bytes ≡ length source

pub here_next : (source : List ℕ) (at : ℕ) (xs ys : List ℕ) → Here source at (xs ++ ys) → Here source (at + length xs) ys
here_next source at xs ys h = record {
  drops = sym (drop-drop (length xs) at source) ∙ ap (drop (length xs)) h.drops ∙ drop-append_seam xs ys;
  ends = omega (arith, h.ends, length-append xs ys);
}

text_here : (source : List ℕ) (at : ℕ) (text rest : List ℕ) → Here source at (text ++ rest) → text_at source (record { start = at; end = at + length text }) ≡ text
text_here source at text rest h =
    let a : nat_le at (at + length text) ≡ true = le-leb at (at + length text) (omega arith) in
    let b : nat_le (at + length text) (length source) ≡ true = le-leb (at + length text) (length source) (omega (arith, h.ends, length-append text rest)) in
    let n : at + length text - at ≡ length text = omega arith in
    rw (a, b, n, h.drops) (take-append_seam text rest)

abbrev pub span_at : ℕ → Piece → Span
span_at at p = record { start = sign_start at p; end = sign_end at p }

-- the source has the text of each piece at its place
abbrev pub Placed : List ℕ → ℕ → List Piece → Type 0
Placed source at [] = Unit {0}
Placed source at (p ∷ ps) = (text_at source (span_at at p) ≡ sign_text p.sign) × Placed source (sign_end at p) ps

here_piece : (source : List ℕ) (at : ℕ) (p : Piece) (ps : List Piece) (rest : List ℕ) → Here source at (spelled (p ∷ ps) ++ rest) → Here source (sign_start at p) (sign_text p.sign ++ (spelled ps ++ rest))
here_piece source at p ps rest h =
    let g : spelled (p ∷ ps) ++ rest ≡ replicate p.spaces 32 ++ (sign_text p.sign ++ (spelled ps ++ rest)) = append_assoc (replicate p.spaces 32) (sign_text p.sign ++ spelled ps) rest ∙ ap (λ (bs : List ℕ). replicate p.spaces 32 ++ bs) (append_assoc (sign_text p.sign) (spelled ps) rest) in
    let n : at + length (replicate p.spaces 32) ≡ at + p.spaces = ap (λ (k : ℕ). at + k) (length-replicate p.spaces 32) in
    subst (λ (k : ℕ). Here source k (sign_text p.sign ++ (spelled ps ++ rest))) n (here_next source at (replicate p.spaces 32) (sign_text p.sign ++ (spelled ps ++ rest)) (subst (Here source at) g h))

pub placed : (ps : List Piece) (source : List ℕ) (at : ℕ) (rest : List ℕ) → Here source at (spelled ps ++ rest) → Placed source at ps
placed [] source at rest h = tt
placed (p ∷ ps) source at rest h =
    let here = here_piece source at p ps rest h in
    (text_here source (sign_start at p) (sign_text p.sign) (spelled ps ++ rest) here, placed ps source (sign_end at p) rest (here_next source (sign_start at p) (sign_text p.sign) (spelled ps ++ rest) here))

pub here_behind : (ps : List Piece) (source : List ℕ) (at : ℕ) (rest : List ℕ) → Here source at (spelled ps ++ rest) → Here source (end_of at ps) rest
here_behind [] source at rest h = h
here_behind (p ∷ ps) source at rest h =
    here_behind ps source (sign_end at p) rest (here_next source (sign_start at p) (sign_text p.sign) (spelled ps ++ rest) (here_piece source at p ps rest h))

-- ---- lexemes

-- the lexemes of pieces that stand at this place
abbrev pub lexemes_at : ℕ → List Piece → List Lexeme
lexemes_at at [] = []
lexemes_at at (p ∷ ps) = sign_lexeme (span_at at p) p.sign ∷ lexemes_at (sign_end at p) ps

lexemes_read : (ps : List Piece) (source : List ℕ) (line at : ℕ) → are_pieces ps ≡ true → Placed source at ps → map (lexeme_of source) (piece_tokens line at ps) ≡ lexemes_at at ps
lexemes_read [] source line at e h = refl
lexemes_read (p ∷ ps) source line at e h =
    let a = and_parts (is_piece p ps) (are_pieces ps) e in
    let b = and_parts (is_sign p.sign) _ a.0 in
    (λ i. sign_read p.sign source (span_at at p) b.0 h.0 i ∷ lexemes_read ps source line (sign_end at p) a.1 h.1 i)

-- ---- lines

-- wherever the pieces stand, they say this line
abbrev pub Says : List Piece → Line → Type 0
Says ps l = (source : List ℕ) (at : ℕ) → Placed source at ps → line_of source (lexemes_at at ps) ≡ l

pub record IsLine (ps : List Piece) (l : Line) : Type 0 where
  pub some : 0 < length ps
  pub pieces : are_pieces ps ≡ true
  pub says : Says ps l

-- each of the lines is said by pieces of its own
abbrev pub AreLines : List (List Piece) → List Line → Type 0
AreLines [] [] = Unit {0}
AreLines [] (l ∷ ls) = ⊥
AreLines (p ∷ ps) [] = ⊥
AreLines (p ∷ ps) (l ∷ ls) = IsLine p l × AreLines ps ls

pub AreLines-append : (ps : List (List Piece)) (ls : List Line) (qs : List (List Piece)) (ms : List Line) → AreLines ps ls → AreLines qs ms → AreLines (ps ++ qs) (ls ++ ms)
AreLines-append [] [] qs ms a b = b
AreLines-append [] (l ∷ ls) qs ms a b = absurd a
AreLines-append (p ∷ ps) [] qs ms a b = absurd a
AreLines-append (p ∷ ps) (l ∷ ls) qs ms a b = (a.0, AreLines-append ps ls qs ms a.1 b)

-- lines with their numbers
abbrev pub numbered_from : ℕ → List Line → List Numbered
numbered_from n [] = []
numbered_from n (l ∷ ls) = (record { number = n; line = l }) ∷ numbered_from (n + 1) ls

all_pieces : (ps : List (List Piece)) (ls : List Line) → AreLines ps ls → are_lines ps ≡ true
all_pieces [] [] h = refl
all_pieces [] (l ∷ ls) h = absurd h
all_pieces (p ∷ ps) [] h = absurd h
all_pieces (p ∷ ps) (l ∷ ls) h = and_from (are_pieces p) (are_lines ps) h.0.pieces (all_pieces ps ls h.1)

one_line : (ps : List Piece) (l : Line) (source : List ℕ) (line at : ℕ) → IsLine ps l → Placed source at ps → numbered source (piece_tokens line at ps) ≡ (record { number = line; line = l }) ∷ []
one_line [] l source line at h p = absurd (omega (arith, h.some))
one_line (p ∷ ps) l source line at h here =
    ap (λ (m : Line). (let it : Numbered = record { number = line; line = m } in it) ∷ []) (ap (line_of source) (lexemes_read (p ∷ ps) source line at h.pieces here) ∙ h.says source at here)

text_read : (ps : List (List Piece)) (ls : List Line) → AreLines ps ls → (source : List ℕ) (line at : ℕ) → Here source at (text_of ps) → flat_map (numbered source) (split_by ends_line (text_tokens line at ps)) ≡ numbered_from line ls
unfolding split_by
text_read [] [] h source line at here = refl
text_read [] (l ∷ ls) h source line at here = absurd h
text_read (p ∷ ps) [] h source line at here = absurd h
text_read (p ∷ ps) (l ∷ ls) h source line at here =
    let first = one_line p l source line at h.0 (placed p source at (10 ∷ text_of ps) here) in
    let behind = here_next source (end_of at p) (10 ∷ []) (text_of ps) (here_behind p source at (10 ∷ text_of ps) here) in
    ap (flat_map (numbered source)) (line_cut p line at (end_of at p) (end_of at p + 1) (text_tokens (line + 1) (end_of at p + 1) ps))
    ∙ (λ i. first i ++ text_read ps ls h.1 source (line + 1) (end_of at p + 1) behind i)

-- the lines of a printed text
pub lines_read : (ps : List (List Piece)) (ls : List Line) → AreLines ps ls → lines_of (text_of ps) (tokens_of (text_of ps)) ≡ numbered_from 1 ls
lines_read ps ls h =
    let here : Here (text_of ps) 0 (text_of ps) = record { drops = refl; ends = omega arith } in
    ap (λ (ts : List Token). flat_map (numbered (text_of ps)) (split_by ends_line ts)) (tokens_of_text ps (all_pieces ps ls h) 1 0) ∙ text_read ps ls h (text_of ps) 1 0 here
