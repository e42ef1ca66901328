-- Between the tokens stand gaps.
use Rattle.std.proofs.Common.{◌≡◌, ℕ, suc, ◌+◌, ◌-◌, Bool, true, false, cond, List, [], ◌∷◌, length, take, drop, refl, sym, ap, subst, ◌∙◌, arith}
use Rattle.std.specs.Prelude.{◌==◌}
use Rattle.std.specs.List.{list_all}
use Rattle.tso_text.specs.declared.token.Token.{Token}
use Rattle.tso_text.specs.declared.token.TokenKind.{TokenKind}
use Rattle.tso_text.specs.declared.token.TokenKind.TheVariants as kinds
use Rattle.tso_text.specs.declared.scan.Class.{Class}
use Rattle.tso_text.specs.declared.scan.Class.TheVariants.{Newline, Blank, Comment, Letter, Digit, Dot, Single}
use Rattle.tso_text.specs.Lexing.{class_of, continues, is_letter, first_class, token, with_start, from_newline, with_byte, with_first, line_after, tokens_from, ends_no_line, Rise, Gaps}
use Rattle.tso_text.proofs.Pieces.{ends_line, ends_line-class, gone, kept, single_kind, with_byte_run, letter_continues}
use Rattle.tso_text.proofs.Spans.{tokens_rise, cut_rise}

-- as Gaps, but the bytes before the first token are within a comment
abbrev InComment : List ℕ → ℕ → List Token → Type 0
InComment bs at [] = list_all ends_no_line bs ≡ true
InComment bs at (t ∷ ts) = (list_all ends_no_line (take (t.start - at) bs) ≡ true) × Gaps (drop (t.end - at) bs) t.end ts

one : (kind : TokenKind) (line b : ℕ) (bs : List ℕ) (at : ℕ) (ts : List Token) → Gaps bs (at + 1) ts → Gaps (b ∷ bs) at (token kind line at (at + 1) ∷ ts)
one kind line b bs at ts g =
    let none : at - at ≡ 0 = omega arith in
    let next : at + 1 - at ≡ suc 0 = omega arith in
    rw (none, next) (refl, g)

more : (kind : TokenKind) (b : ℕ) (bs : List ℕ) (at to : ℕ) (t : Token) (ts : List Token) → Rise (at + 1) (t ∷ ts) to → Gaps bs (at + 1) (t ∷ ts) → Gaps (b ∷ bs) at (with_start kind at (t ∷ ts))
more kind b bs at to t ts r g =
    let none : at - at ≡ 0 = omega arith in
    let next : t.end - at ≡ suc (t.end - (at + 1)) = omega arith in
    rw (none, next) (refl, g.1)

-- a token that goes on is there
longer : (kind : TokenKind) (line b : ℕ) (bs : List ℕ) (at to : ℕ) (ts : List Token) (t : Token) (us : List Token) → with_start kind at ts ≡ t ∷ us → Rise (at + 1) ts to → Gaps bs (at + 1) ts → Gaps (b ∷ bs) at (with_start kind at ts)
longer kind line b bs at to [] t us e r g = absurd cc
longer kind line b bs at to (v ∷ vs) t us e r g = more kind b bs at to v vs r g

with_byte_gaps : (c : Bool) (kind : TokenKind) (line b : ℕ) (bs : List ℕ) (at to : ℕ) (ts : List Token) (t : Token) (us : List Token) → with_byte c kind line at ts ≡ t ∷ us → Rise (at + 1) ts to → Gaps bs (at + 1) ts → Gaps (b ∷ bs) at (with_byte c kind line at ts)
with_byte_gaps true kind line b bs at to ts t us e r g = longer kind line b bs at to ts t us e r g
with_byte_gaps false kind line b bs at to ts t us e r g = one kind line b bs at ts g

dot_gaps : (c : Bool) (line b : ℕ) (bs : List ℕ) (at to : ℕ) (ts : List Token) (t : Token) (us : List Token) → (c ≡ true → with_start kinds.Word at ts ≡ t ∷ us) → Rise (at + 1) ts to → Gaps bs (at + 1) ts → Gaps (b ∷ bs) at (cond c (with_start kinds.Word at ts) (token kinds.Other line at (at + 1) ∷ ts))
dot_gaps true line b bs at to ts t us e r g = longer kinds.Word line b bs at to ts t us (e refl) r g
dot_gaps false line b bs at to ts t us e r g = one kinds.Other line b bs at ts g

blank_gaps : (b : ℕ) (bs : List ℕ) (at to : ℕ) (ts : List Token) → class_of b ≡ Blank → Rise (at + 1) ts to → Gaps bs (at + 1) ts → Gaps (b ∷ bs) at ts
blank_gaps b bs at to [] e r g = rw e g
blank_gaps b bs at to (t ∷ ts) e r g =
    let first : t.start - at ≡ suc (t.start - (at + 1)) = omega arith in
    let next : t.end - at ≡ suc (t.end - (at + 1)) = omega arith in
    rw (first, next, e) (g.0, g.1)

comment_gaps : (b : ℕ) (bs : List ℕ) (at to : ℕ) (ts : List Token) → class_of b ≡ Comment → Rise (at + 1) ts to → InComment bs (at + 1) ts → Gaps (b ∷ bs) at ts
comment_gaps b bs at to [] e r g = rw e g
comment_gaps b bs at to (t ∷ ts) e r g =
    let first : t.start - at ≡ suc (t.start - (at + 1)) = omega arith in
    let next : t.end - at ≡ suc (t.end - (at + 1)) = omega arith in
    rw (first, next, e) (g.0, g.1)

within_gaps : (b : ℕ) (bs : List ℕ) (at to : ℕ) (ts : List Token) → (b == 10) ≡ false → Rise (at + 1) ts to → InComment bs (at + 1) ts → InComment (b ∷ bs) at ts
within_gaps b bs at to [] e r g = rw e g
within_gaps b bs at to (t ∷ ts) e r g =
    let first : t.start - at ≡ suc (t.start - (at + 1)) = omega arith in
    let next : t.end - at ≡ suc (t.end - (at + 1)) = omega arith in
    rw (first, next, e) (g.0, g.1)

-- the gaps after the byte b, from those of the bytes after it
first_gaps : (k : Class) (b : ℕ) (bs : List ℕ) (line at to : ℕ) → class_of b ≡ k
    → let ts = tokens_from (line_after k line) (at + 1) bs in Rise (at + 1) ts to → Rise (at + 1) (from_newline ts) to → Gaps bs (at + 1) ts → InComment bs (at + 1) (from_newline ts)
    → Gaps (b ∷ bs) at (with_first k (first_class bs) line at ts)
first_gaps Newline b bs line at to e r q g h = one kinds.Newline line b bs at (tokens_from (line + 1) (at + 1) bs) g
first_gaps Blank b bs line at to e r q g h = blank_gaps b bs at to (tokens_from line (at + 1) bs) e r g
first_gaps Comment b bs line at to e r q g h = comment_gaps b bs at to (from_newline (tokens_from line (at + 1) bs)) e q h
first_gaps Letter b bs line at to e r q g h = with_byte_gaps (continues (first_class bs)) kinds.Word line b bs at to (tokens_from line (at + 1) bs) _ _ (with_byte_run kinds.Word line at bs) r g
first_gaps Digit b bs line at to e r q g h = with_byte_gaps (continues (first_class bs)) kinds.Number line b bs at to (tokens_from line (at + 1) bs) _ _ (with_byte_run kinds.Number line at bs) r g
first_gaps Dot b bs line at to e r q g h =
    dot_gaps (is_letter (first_class bs)) line b bs at to (tokens_from line (at + 1) bs) _ _
    (λ l. ap (λ (c : Bool). with_byte c kinds.Word line at (tokens_from line (at + 1) bs)) (sym (letter_continues (first_class bs) l)) ∙ with_byte_run kinds.Word line at bs) r g
first_gaps (Single kind) b bs line at to e r q g h = one kind line b bs at (tokens_from line (at + 1) bs) g

-- the same within a comment
comment_first : (k : Class) (b : ℕ) (bs : List ℕ) (line at to : ℕ) → class_of b ≡ k → ends_line k ≡ true
    → let ts = tokens_from (line_after k line) (at + 1) bs in Gaps bs (at + 1) ts → InComment (b ∷ bs) at (with_first k (first_class bs) line at ts)
comment_first Newline b bs line at to e f g =
    let none : at - at ≡ 0 = omega arith in
    let next : at + 1 - at ≡ suc 0 = omega arith in
    rw (none, next) (refl, g)
comment_first Blank b bs line at to e f g = absurd cc
comment_first Comment b bs line at to e f g = absurd cc
comment_first Letter b bs line at to e f g = absurd cc
comment_first Digit b bs line at to e f g = absurd cc
comment_first Dot b bs line at to e f g = absurd cc
comment_first (Single kind) b bs line at to e f g = absurd (cc (single_kind b kind e))

comment_next : (c : Bool) (b : ℕ) (bs : List ℕ) (line at to : ℕ) → ends_line (class_of b) ≡ c
    → Rise (at + 1) (from_newline (tokens_from line (at + 1) bs)) to → Gaps bs (at + 1) (tokens_from (line_after (class_of b) line) (at + 1) bs) → InComment bs (at + 1) (from_newline (tokens_from line (at + 1) bs))
    → InComment (b ∷ bs) at (from_newline (with_first (class_of b) (first_class bs) line at (tokens_from (line_after (class_of b) line) (at + 1) bs)))
comment_next true b bs line at to e r g h =
    subst (λ (ts : List Token). InComment (b ∷ bs) at ts) (sym (kept (class_of b) line at bs e)) (comment_first (class_of b) b bs line at to refl e g)
comment_next false b bs line at to e r g h =
    subst (λ (ts : List Token). InComment (b ∷ bs) at ts) (sym (gone (class_of b) line at bs e)) (within_gaps b bs at to _ (sym (ends_line-class b) ∙ e) r h)

both : (bs : List ℕ) (line at : ℕ) → Gaps bs at (tokens_from line at bs) × InComment bs at (from_newline (tokens_from line at bs))
unfolding tokens_from
both [] line at = (refl, refl)
both (b ∷ bs) line at =
    let to : ℕ = at + 1 + length bs in
    let after : ℕ = line_after (class_of b) line in
    let r : (n : ℕ) → Rise (at + 1) (tokens_from n (at + 1) bs) to = λ n. tokens_rise bs n (at + 1) to refl in
    let q : (n : ℕ) → Rise (at + 1) (from_newline (tokens_from n (at + 1) bs)) to = λ n. cut_rise (tokens_from n (at + 1) bs) (at + 1) to (r n) in (
      first_gaps (class_of b) b bs line at to refl (r after) (q after) (both bs after (at + 1)).0 (both bs after (at + 1)).1,
      comment_next (ends_line (class_of b)) b bs line at to refl (q line) (both bs after (at + 1)).0 (both bs line (at + 1)).1,
    )

pub tokens_gaps : (bs : List ℕ) (line at : ℕ) → Gaps bs at (tokens_from line at bs)
tokens_gaps bs line at = (both bs line at).0
