-- An index that is no word is outside each array.
use Rattle.std.proofs.Common.{◌≡◌, ℕ, zero, suc, ◌≤◌, ◌^◌, List, [], ◌∷◌, length, sum_by, slice_get, Option, Some, None, ℤ, pos, negsuc, refl, arith, ap}
use Rattle.std.specs.Int.{FitsUnsigned, w64}
use Rattle.std.proofs.lemmas.Bool.{le-ltb}
use Rattle.std.proofs.lemmas.List.Sums.{sum_by-cons}
use Rattle.std.proofs.lemmas.Int.{ints}
use native.Mathlib.Decide.{dec_lt}
use Rattle.tso_prog.specs.declared.client.Array.{Array}
use Rattle.tso_machine.specs.Places.{place_in, place_of, first_place}

pub words_within : (arrays : List Array) (i : ℕ) (a : Array) → slice_get arrays i ≡ Some a → length a.words ≤ sum_by (λ (b : Array). length b.words) arrays
words_within [] i a e = cc
words_within (x ∷ xs) zero a e = let same : x ≡ a = cc in let le : length a.words ≤ length x.words = omega (arith, ap (λ (b : Array). length b.words) same) in omega (arith, sum_by-cons (λ (b : Array). length b.words) x xs)
words_within (x ∷ xs) (suc i) a e = omega (arith, words_within xs i a e, sum_by-cons (λ (b : Array). length b.words) x xs)

outside_one : (o : Option Array) (first : ℕ) (z : ℤ) → ((a : Array) → o ≡ Some a → length a.words ≤ 256) → (FitsUnsigned w64 z → ⊥) → place_in o first z ≡ None
outside_one None first z few out = refl
outside_one (Some a) first (negsuc k) few out = refl
outside_one (Some a) first (pos k) few out =
    let big : 2 ^ 64 ≤ k = elim (dec_lt k (2 ^ 64)) [ yes h ↦ absurd (out (omega (arith, ints), omega (arith, ints))) | no h ↦ omega arith ] in
    let le : length a.words ≤ k = omega (arith, few a refl) in
    rw (le-ltb k (length a.words) le) refl

pub outside_all : (arrays : List Array) (i : ℕ) (z : ℤ) → sum_by (λ (b : Array). length b.words) arrays ≤ 256 → (FitsUnsigned w64 z → ⊥) → place_of arrays i z ≡ None
outside_all arrays i z few out =
    outside_one (slice_get arrays i) (first_place arrays i) z (λ a e. omega (arith, words_within arrays i a e)) out
