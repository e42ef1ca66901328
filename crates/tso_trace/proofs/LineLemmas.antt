-- Where a byte stands first in a text.
use Rattle.std.proofs.Common.{◌≡◌, ◌≢◌, ◌∙◌, ℕ, ◌<◌, ◌≤◌, ◌^◌, true, false, not, eqb, Option, Some, None, MatchOption, List, [], ◌∷◌, ◌++◌, sym, ap, refl, decimal}
use Rattle.std.specs.Char.{is_ascii_digit}
use Rattle.std.specs.Str.Parse.{AllDigits}
use Rattle.std.proofs.lemmas.Bool.{and_parts, and_from, eqb-false, le-leb, ne_eqb, not_from_false, not-true, both_ways}
use Rattle.std.proofs.lemmas.Fmt.{decimal_is_IsNumeral}
use Rattle.std.proofs.lemmas.List.{append_assoc}
use Rattle.std.proofs.lemmas.List.Folds.{list_all-append}
use Rattle.std.proofs.lemmas.Str.Parse.{digit_from_value}
use Rattle.tso_trace.specs.Grammar.{named_cell}
use Rattle.tso_trace.specs.Parts.{lacks}

-- the two outcomes of a search, each weakened
pub outcome : {X : Type 0} (o : Option X) {P P' : Type 0} {Q Q' : X → Type 0} → MatchOption o P Q → (P → P') → ((x : X) → Q x → Q' x) → MatchOption o P' Q'
outcome None m f g = f m
outcome (Some x) m f g = g x m

other_byte : (b x : ℕ) (text : List ℕ) → lacks b (x ∷ text) ≡ true → x ≢ b
other_byte b x text l = eqb-false x b (not-true _ (and_parts _ _ l).0)

-- a byte that a text has is not lacking
pub lacks_not : (b : ℕ) (front back : List ℕ) → lacks b (front ++ b ∷ back) ≡ true → ⊥
lacks_not b [] back l = other_byte b b back l refl
lacks_not b (x ∷ front) back l = lacks_not b front back (and_parts _ _ l).1

-- the parts round the first byte of a value are determined
pub same_cut : (b : ℕ) (front front' back back' : List ℕ) → lacks b front ≡ true → lacks b front' ≡ true → front ++ b ∷ back ≡ front' ++ b ∷ back' → (front ≡ front') × (back ≡ back')
same_cut b [] [] back back' l l' e = (refl, cc)
same_cut b [] (x ∷ front') back back' l l' e = absurd (other_byte b x front' l' (let same : x ≡ b = cc in same))
same_cut b (x ∷ front) [] back back' l l' e = absurd (other_byte b x front l (let same : x ≡ b = cc in same))
same_cut b (x ∷ front) (y ∷ front') back back' l l' e =
    let first : x ≡ y = cc in
    let rest : front ++ b ∷ back ≡ front' ++ b ∷ back' = cc in
    let more = same_cut b front front' back back' (and_parts _ _ l).1 (and_parts _ _ l').1 rest in
    ((λ i. first i ∷ more.0 i), more.1)

pub lacks-append : (b : ℕ) (front back : List ℕ) → lacks b front ≡ true → lacks b back ≡ true → lacks b (front ++ back) ≡ true
lacks-append b front back l l' = list_all-append (λ x. not (eqb x b)) front back ∙ and_from _ _ l l'

digit_is : (d : ℕ) → 48 ≤ d → d ≤ 57 → is_ascii_digit d ≡ true
digit_is d low high = and_from _ _ (le-leb 48 d low) (le-leb d 57 high)

digits_lack : (b : ℕ) (ds : List ℕ) → is_ascii_digit b ≡ false → AllDigits 10 ds → lacks b ds ≡ true
digits_lack b [] other all = refl
digits_lack b (d ∷ ds) other all =
    let range = digit_from_value d all.0 in
    let apart : d ≢ b = λ e. both_ways (is_ascii_digit b) other (ap is_ascii_digit (sym e) ∙ digit_is d range.0 range.1) in
    and_from _ _ (not_from_false _ (ne_eqb d b apart)) (digits_lack b ds other all.1)

-- a number has digits alone
pub decimal_lacks : (b n : ℕ) → is_ascii_digit b ≡ false → n < 2 ^ 64 → lacks b (decimal n) ≡ true
decimal_lacks b n other small = digits_lack b (decimal n) other (decimal_is_IsNumeral n small).0.1

-- a cell ends its name at `[` and its index at `]`
pub cell_parts : (name : List ℕ) (index : ℕ) (rest : List ℕ) → named_cell name index ++ rest ≡ name ++ 91 ∷ (decimal index ++ 93 ∷ rest)
cell_parts name index rest = append_assoc name (91 ∷ (decimal index ++ 93 ∷ [])) rest ∙ ap (λ (l : List ℕ). name ++ 91 ∷ l) (append_assoc (decimal index) (93 ∷ []) rest)
