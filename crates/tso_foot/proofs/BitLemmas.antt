-- Masks bit by bit.
use Rattle.std.proofs.Common.{◌≡◌, ◌∙◌, ℕ, zero, suc, ◌≤◌, ◌<◌, ◌==◌, ◌||◌, Bool, true, false, refl, sym, ap, subst, arith}
use Rattle.std.specs.Int.{bit_at}
use Rattle.std.specs.Prelude.{bit_or, max, IsTrue}
use Rattle.std.proofs.lemmas.Bool.{eqb-true, eq-eqb, or_left, or_right}
use Rattle.std.proofs.lemmas.Nat.{le_or_l}
use Rattle.std.proofs.lemmas.Nat.Bits.{bit_at-lt, bit_at-zero, bit_at_or, same_from_bits}
use Rattle.tso_foot.specs.Masks.{covers, has_array}

bit_of_or : (x y : ℕ) → x < 2 → y < 2 → (max x y == 1) ≡ ((x == 1) || (y == 1))
bit_of_or zero zero p q = refl
bit_of_or zero (suc zero) p q = refl
bit_of_or (suc zero) zero p q = refl
bit_of_or (suc zero) (suc zero) p q = refl
bit_of_or (suc (suc x)) y p q = absurd (omega arith)
bit_of_or x (suc (suc y)) p q = absurd (omega arith)

-- the bits of a union
pub has_array-or : (a b k : ℕ) → has_array (bit_or a b) k ≡ (has_array a k || has_array b k)
has_array-or a b k = ap (λ n. n == 1) (bit_at_or a b k) ∙ bit_of_or (bit_at a k) (bit_at b k) (bit_at-lt a k) (bit_at-lt b k)

pub or_either : (x y z : Bool) → (x ≡ true → z ≡ true) → (y ≡ true → z ≡ true) → (x || y) ≡ true → z ≡ true
or_either true y z f g e = f refl
or_either false y z f g e = g e

-- each bit of the first mask is in the other
abbrev pub IsIn : ℕ → ℕ → Type 0
IsIn mask other = (k : ℕ) → IsTrue (has_array mask k) → IsTrue (has_array other k)

pub left_in : (a b : ℕ) → IsIn a (bit_or a b)
left_in a b k h = has_array-or a b k ∙ or_left (has_array a k) (has_array b k) h

pub right_in : (a b : ℕ) → IsIn b (bit_or a b)
right_in a b k h = has_array-or a b k ∙ or_right (has_array a k) (has_array b k) h

pub both_in : (a b mask : ℕ) → IsIn a mask → IsIn b mask → IsIn (bit_or a b) mask
both_in a b mask f g k h = or_either (has_array a k) (has_array b k) (has_array mask k) (f k) (g k) (sym (has_array-or a b k) ∙ h)

pub none_in : (mask : ℕ) → IsIn 0 mask
none_in mask k h = let z : has_array 0 k ≡ false = ap (λ n. n == 1) (bit_at-zero k) in let clash : true ≡ false = sym h ∙ z in absurd cc

-- ---- masks with the same bits are the same

bits_alike : (x y : ℕ) → x < 2 → y < 2 → ((x == 1) ≡ true → (y == 1) ≡ true) → ((y == 1) ≡ true → (x == 1) ≡ true) → x ≡ y
bits_alike zero zero p q f g = refl
bits_alike (suc zero) (suc zero) p q f g = refl
bits_alike zero (suc zero) p q f g = let clash : false ≡ true = g refl in absurd cc
bits_alike (suc zero) zero p q f g = let clash : false ≡ true = f refl in absurd cc
bits_alike (suc (suc x)) y p q f g = absurd (omega arith)
bits_alike x (suc (suc y)) p q f g = absurd (omega arith)

pub same_masks : (a b : ℕ) → IsIn a b → IsIn b a → a ≡ b
same_masks a b f g = same_from_bits a b (λ i. bits_alike (bit_at a i) (bit_at b i) (bit_at-lt a i) (bit_at-lt b i) (f i) (g i))

-- a smaller set is a smaller number
pub le_in : (a b : ℕ) → IsIn a b → a ≤ b
le_in a b f = subst (λ n. a ≤ n) (same_masks (bit_or a b) b (both_in a b b f (λ k h. h)) (right_in a b)) (le_or_l a b)

-- ---- covering, by bits

pub covers_in : (mask other : ℕ) → IsIn other mask → covers mask other ≡ true
covers_in mask other f = eq-eqb (bit_or mask other) mask (same_masks (bit_or mask other) mask (both_in mask other mask (λ k h. h) f) (left_in mask other))

pub in_covers : (mask other : ℕ) → covers mask other ≡ true → IsIn other mask
in_covers mask other c k h = ap (λ n. has_array n k) (sym (eqb-true (bit_or mask other) mask c)) ∙ right_in mask other k h
