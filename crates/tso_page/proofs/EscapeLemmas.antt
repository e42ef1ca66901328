-- Escaped texts have no markup, and are read as what they were.
use Rattle.std.proofs.Common.{◌≡◌, ◌∙◌, ℕ, Bool, true, false, not, ◌&&◌, ◌||◌, ◌==◌, cond, if◌then◌else◌, List, [], ◌∷◌, ◌++◌, refl, sym, ap, subst}
use Rattle.std.specs.List.{filter, list_all}
use Rattle.std.proofs.lemmas.Bool.{eqb-true, false≢true}
use Rattle.std.proofs.lemmas.List.Folds.{list_all-append}
use Rattle.tso_page.specs.Escapes.{IsNoMarkup, escaped, escaped_byte, is_plain, number_in, read_from, unescaped}
use Rattle.tso_page.specs.Data.{is_data}

-- ---- texts

plain_self : (b : ℕ) → (b == 34) ≡ false → (b == 39) ≡ false → (b == 60) ≡ false → (b == 62) ≡ false → (not ((b == 34) || ((b == 39) || ((b == 60) || (b == 62)))) && true) ≡ true
plain_self b e1 e3 e4 e5 = rw (e1, e3, e4, e5) refl

-- a byte stands for itself, or is one of five
plain_by : (b : ℕ) (p q r s t : Bool) → (b == 34) ≡ p → (b == 38) ≡ q → (b == 39) ≡ r → (b == 60) ≡ s → (b == 62) ≡ t → list_all is_plain (escaped_byte b) ≡ true
plain_by b true q r s t e1 e2 e3 e4 e5 = rw e1 refl
plain_by b false true r s t e1 e2 e3 e4 e5 = rw (e1, e2) refl
plain_by b false false true s t e1 e2 e3 e4 e5 = rw (e1, e2, e3) refl
plain_by b false false false true t e1 e2 e3 e4 e5 = rw (e1, e2, e3, e4) refl
plain_by b false false false false true e1 e2 e3 e4 e5 = rw (e1, e2, e3, e4, e5) refl
plain_by b false false false false false e1 e2 e3 e4 e5 = rw (e1, e2, e3, e4, e5) (plain_self b e1 e3 e4 e5)

pub all_plain : (text : List ℕ) → list_all is_plain (escaped text) ≡ true
all_plain [] = refl
all_plain (b ∷ bs) =
    list_all-append is_plain (escaped_byte b) (escaped bs)
    ∙ ap (λ (x : Bool). x && list_all is_plain (escaped bs)) (plain_by b (b == 34) (b == 38) (b == 39) (b == 60) (b == 62) refl refl refl refl refl)
    ∙ all_plain bs

-- a byte is read as itself, or is the number of its code
read_self : (b : ℕ) (rest : List ℕ) → (b == 38) ≡ false → (if b == 38 then number_in rest ∷ read_from 4 rest else b ∷ read_from 0 rest) ≡ b ∷ read_from 0 rest
read_self b rest e = rw e refl

coded : (b n : ℕ) (rest : List ℕ) → (b == n) ≡ true → n ∷ rest ≡ b ∷ rest
coded b n rest e = ap (λ (x : ℕ). x ∷ rest) (sym (eqb-true b n e))

read_by : (b : ℕ) (p q r s t : Bool) → (b == 34) ≡ p → (b == 38) ≡ q → (b == 39) ≡ r → (b == 60) ≡ s → (b == 62) ≡ t → (rest : List ℕ)
    → read_from 0 (escaped_byte b ++ rest) ≡ b ∷ read_from 0 rest
read_by b true q r s t e1 e2 e3 e4 e5 rest = rw e1 (coded b 34 (read_from 0 rest) e1)
read_by b false true r s t e1 e2 e3 e4 e5 rest = rw (e1, e2) (coded b 38 (read_from 0 rest) e2)
read_by b false false true s t e1 e2 e3 e4 e5 rest = rw (e1, e2, e3) (coded b 39 (read_from 0 rest) e3)
read_by b false false false true t e1 e2 e3 e4 e5 rest = rw (e1, e2, e3, e4) (coded b 60 (read_from 0 rest) e4)
read_by b false false false false true e1 e2 e3 e4 e5 rest = rw (e1, e2, e3, e4, e5) (coded b 62 (read_from 0 rest) e5)
read_by b false false false false false e1 e2 e3 e4 e5 rest = rw (e1, e2, e3, e4, e5) (read_self b rest e2)

pub all_read : (text : List ℕ) → unescaped (escaped text) ≡ text
all_read [] = refl
all_read (b ∷ bs) =
    read_by b (b == 34) (b == 38) (b == 39) (b == 60) (b == 62) refl refl refl refl refl (escaped bs) ∙ ap (λ (xs : List ℕ). b ∷ xs) (all_read bs)

pub no_markup : (text : List ℕ) → IsNoMarkup text
no_markup text = record { plain = all_plain text; read = all_read text }

-- ---- data

no_tag : (b : ℕ) (q : Bool) → (b == 60) ≡ q → is_data b ≡ true → (b == 60) ≡ false
no_tag b true e allowed =
    let Q : ℕ → Type 0 = λ x. is_data x ≡ true in
    absurd (false≢true (subst Q (eqb-true b 60 e) allowed))
no_tag b false e allowed = e

kept : (b : ℕ) (rest : List ℕ) (p : Bool) → is_data b ≡ p → list_all (λ (x : ℕ). not (x == 60)) rest ≡ true → list_all (λ (x : ℕ). not (x == 60)) (cond p (b ∷ rest) rest) ≡ true
kept b rest true e all = rw (no_tag b (b == 60) refl e) all
kept b rest false e all = all

pub all_data : (text : List ℕ) → list_all (λ (x : ℕ). not (x == 60)) (filter is_data text) ≡ true
all_data [] = refl
all_data (b ∷ bs) = kept b (filter is_data bs) (is_data b) refl (all_data bs)
