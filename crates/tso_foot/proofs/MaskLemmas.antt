-- Masks of arrays, and the arrays of places.
use Rattle.std.proofs.Common.{◌≡◌, ◌∙◌, ℕ, zero, suc, ◌+◌, ◌-◌, ◌<◌, ◌≤◌, ◌==◌, Bool, true, false, nat_lt, List, [], ◌∷◌, length, take, Option, None, Some, slice_get, ℤ, pos, negsuc, refl, sym, ap, arith, if◌then◌else◌}
use Rattle.std.specs.Prelude.{bit_or, ◌^◌}
use Rattle.std.specs.List.{sum_by}
use Rattle.std.specs.Option.{option_map}
use Rattle.std.proofs.lemmas.Bool.{and_parts, eqb-true, le-ltb, lt-ltb, ltb-false, ltb-true, or_left, or_right}
use Rattle.std.proofs.lemmas.Nat.Bits.{bit_at-pow_same, bit_at-zero}
use Rattle.std.proofs.lemmas.Option.{none-some, same_Some}
use Rattle.std.proofs.lemmas.List.Sums.{sum_by-cons}
use Rattle.tso_foot.proofs.BitLemmas.{has_array-or}
use Rattle.tso_foot.specs.Masks.{array_of, covers, has_array, has_place, has_some, holds}
use Rattle.tso_foot.specs.declared.masks.Masks.{Masks}
use Rattle.tso_machine.specs.Places.{first_place, place_in, place_of}
use Rattle.tso_prog.specs.declared.client.Array.{Array}

-- the number of an array that stands so many further on
abbrev pub moved_on : ℕ → Option ℕ → Option ℕ
moved_on n o = option_map (λ k. k + n) o

pub covers_has : (m o k : ℕ) → covers m o ≡ true → has_array o k ≡ true → has_array m k ≡ true
covers_has m o k c h = ap (λ n. has_array n k) (sym (eqb-true (bit_or m o) m c)) ∙ has_array-or m o k ∙ or_right (has_array m k) (has_array o k) h

some_has : (m o : ℕ) (s : Option ℕ) → ((k : ℕ) → has_array o k ≡ true → has_array m k ≡ true) → has_some o s ≡ true → has_some m s ≡ true
some_has m o None f e = e
some_has m o (Some k) f e = f k e

pub covers_place : (arrays : List Array) (m o place : ℕ) → covers m o ≡ true → has_place arrays o place ≡ true → has_place arrays m place ≡ true
covers_place arrays m o place c h = some_has m o (array_of arrays place) (λ k e. covers_has m o k c e) h

pub left_place : (arrays : List Array) (a b place : ℕ) → has_place arrays a place ≡ true → has_place arrays (bit_or a b) place ≡ true
left_place arrays a b place h = some_has (bit_or a b) a (array_of arrays place) (λ k e. has_array-or a b k ∙ or_left (has_array a k) (has_array b k) e) h

pub right_place : (arrays : List Array) (a b place : ℕ) → has_place arrays b place ≡ true → has_place arrays (bit_or a b) place ≡ true
right_place arrays a b place h = some_has (bit_or a b) b (array_of arrays place) (λ k e. has_array-or a b k ∙ or_right (has_array a k) (has_array b k) e) h

zero_has : (s : Option ℕ) → has_some 0 s ≡ true → ⊥
zero_has None e = cc
zero_has (Some k) e = let z : has_array 0 k ≡ false = ap (λ n. n == 1) (bit_at-zero k) in let clash : true ≡ false = sym e ∙ z in cc

pub no_place : (arrays : List Array) (place : ℕ) → has_place arrays 0 place ≡ true → ⊥
no_place arrays place e = zero_has (array_of arrays place) e

pub own_array : (arrays : List Array) (place k : ℕ) → array_of arrays place ≡ Some k → has_place arrays (2 ^ k) place ≡ true
own_array arrays place k e = ap (has_some (2 ^ k)) e ∙ ap (λ n. n == 1) (bit_at-pow_same k)

pub holds_reads : (big small : Masks) → holds big small ≡ true → covers big.reads small.reads ≡ true
holds_reads big small e = (and_parts (covers big.reads small.reads) (covers big.writes small.writes) e).0

pub holds_writes : (big small : Masks) → holds big small ≡ true → covers big.writes small.writes ≡ true
holds_writes big small e = (and_parts (covers big.reads small.reads) (covers big.writes small.writes) e).1

-- ---- arrays of places

array_here : (a : Array) (rest : List Array) (place : ℕ) → place < length a.words → array_of (a ∷ rest) place ≡ Some 0
array_here a rest place lt = rw (lt-ltb place (length a.words) lt) refl

array_there : (a : Array) (rest : List Array) (place : ℕ) → length a.words ≤ place → array_of (a ∷ rest) place ≡ moved_on 1 (array_of rest (place - length a.words))
array_there a rest place le = rw (le-ltb place (length a.words) le) refl

-- an array that stands so many words further on has its places so many further on
pub record IsShifted (o : Option Array) (first d p : ℕ) (z : ℤ) : Type 0 where
  pub place : ℕ
  pub is : place_in o first z ≡ Some place
  pub shifted : p ≡ d + place

shift : (o : Option Array) (first d p : ℕ) (z : ℤ) → place_in o (d + first) z ≡ Some p → IsShifted o first d p z
shift None first d p z e = absurd (none-some p e)
shift (Some a) first d p (negsuc k) e = absurd (none-some p e)
shift (Some a) first d p (pos k) e = chosen (nat_lt k (length a.words)) refl e
  where
    chosen : (b : Bool) → nat_lt k (length a.words) ≡ b → (if b then Some (d + first + k) else None) ≡ Some p → IsShifted (Some a) first d p (pos k)
    chosen true lt q = record { place = first + k; is = rw lt refl; shifted = let r = same_Some _ p q in omega (arith, r) }
    chosen false lt q = absurd (none-some p q)

first_word : (a : Array) (rest : List Array) (p : ℕ) (z : ℤ) → place_in (Some a) 0 z ≡ Some p → array_of (a ∷ rest) p ≡ Some 0
first_word a rest p (negsuc k) e = absurd (none-some p e)
first_word a rest p (pos k) e = chosen (nat_lt k (length a.words)) refl e
  where
    chosen : (b : Bool) → nat_lt k (length a.words) ≡ b → (if b then Some (0 + k) else None) ≡ Some p → array_of (a ∷ rest) p ≡ Some 0
    chosen true lt q = let r = same_Some _ p q in let below = ltb-true k (length a.words) lt in array_here a rest p (omega (arith, r, below))
    chosen false lt q = absurd (none-some p q)

-- the array of a cell's place is the cell's
pub array_of-place : (arrays : List Array) (n p : ℕ) (z : ℤ) → place_of arrays n z ≡ Some p → array_of arrays p ≡ Some n
array_of-place [] n p z e = absurd (none-some p e)
array_of-place (a ∷ rest) zero p z e = first_word a rest p z e
array_of-place (a ∷ rest) (suc n) p z e =
    let sums : first_place (a ∷ rest) (suc n) ≡ length a.words + first_place rest n = sum_by-cons (λ (x : Array). length x.words) a (take n rest) in
    let at : place_in (slice_get rest n) (length a.words + first_place rest n) z ≡ Some p = ap (λ f. place_in (slice_get rest n) f z) (sym sums) ∙ e in
    let s = shift (slice_get rest n) (first_place rest n) (length a.words) p z at in
    let inside = array_of-place rest n s.place z s.is in
    let less : p - length a.words ≡ s.place = omega (arith, s.shifted) in
    let last : n + 1 ≡ suc n = omega arith in
    array_there a rest p (omega (arith, s.shifted)) ∙ ap (λ q. moved_on 1 (array_of rest q)) less ∙ ap (moved_on 1) inside ∙ ap Some last

-- each place of memory is in an array
pub some_array : (arrays : List Array) (p : ℕ) → p < sum_by (λ (x : Array). length x.words) arrays → (k : ℕ) × (array_of arrays p ≡ Some k)
some_array [] p lt = absurd (omega arith)
some_array (a ∷ rest) p lt =
    let sums = sum_by-cons (λ (x : Array). length x.words) a rest in
    chosen (nat_lt p (length a.words)) refl (λ le. some_array rest (p - length a.words) (omega (arith, le, sums, lt)))
  where
    chosen : (b : Bool) → nat_lt p (length a.words) ≡ b → (length a.words ≤ p → (k : ℕ) × (array_of rest (p - length a.words) ≡ Some k)) → (k : ℕ) × (array_of (a ∷ rest) p ≡ Some k)
    chosen true e later = (0, array_here a rest p (ltb-true p (length a.words) e))
    chosen false e later =
        let le = ltb-false p (length a.words) e in
        let (k, is) = later le in
        (k + 1, array_there a rest p le ∙ ap (moved_on 1) is)
