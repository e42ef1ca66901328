-- A text is that of its lines.
use Rattle.std.proofs.Common.{◌≡◌, ◌∙◌, ℕ, Bool, true, false, cond, ◌==◌, List, [], ◌∷◌, ◌++◌, drop, refl, ap, sym, arith}
use Rattle.std.specs.List.{flat_map}
use Rattle.tso_line.specs.Lexemes.{onto, split_by}
use Rattle.tso_fences.specs.Lines.{behind_newline, is_newline, lines_of, text_of}

put_first : (b : ℕ) (t : List ℕ) (ls : List (List ℕ)) → flat_map behind_newline ls ≡ 10 ∷ t → flat_map behind_newline (onto b ls) ≡ 10 ∷ b ∷ t
put_first b t [] e = cc
put_first b t (m ∷ ms) e = ap (λ (x : List ℕ). 10 ∷ b ∷ x) (ap (drop 1) e)

byte_more : (c : Bool) (b : ℕ) (t : List ℕ) (ls : List (List ℕ)) → (c ≡ true → b ≡ 10) → flat_map behind_newline ls ≡ 10 ∷ t → flat_map behind_newline (cond c ([] ∷ ls) (onto b ls)) ≡ 10 ∷ b ∷ t
byte_more true b t ls h e = ap (λ (x : List ℕ). 10 ∷ x) (e ∙ ap (λ (x : ℕ). x ∷ t) (sym (h refl)))
byte_more false b t ls h e = put_first b t ls e

lines_back : (text : List ℕ) → flat_map behind_newline (lines_of text) ≡ 10 ∷ text
unfolding split_by
lines_back [] = refl
lines_back (b ∷ text) = byte_more (b == 10) b text (split_by is_newline text) (λ e. grind (arith, e)) (lines_back text)

pub text_of-lines_of : (text : List ℕ) → text_of (lines_of text) ≡ text
text_of-lines_of text = ap (drop 1) (lines_back text)
