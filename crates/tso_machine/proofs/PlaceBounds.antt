-- The places of words of arrays are inside the memory.
use Rattle.std.proofs.Common.{◌≡◌, ℕ, zero, suc, ◌+◌, ◌<◌, ◌≤◌, Bool, true, false, nat_lt, List, [], ◌∷◌, length, take, Option, Some, None, slice_get, ℤ, pos, negsuc, refl, ap, arith, if◌then◌else◌}
use Rattle.std.specs.List.{sum_by}
use Rattle.std.proofs.lemmas.Bool.{ltb-true}
use Rattle.std.proofs.lemmas.List.Concat.{length-flat_map}
use Rattle.std.proofs.lemmas.List.Sums.{sum_by-cons}
use Rattle.tso_prog.specs.declared.client.Array.{Array}
use Rattle.tso_machine.specs.Places.{first_memory, first_place, place_in, place_of}

before_and_own : (arrays : List Array) (n : ℕ) (a : Array) → slice_get arrays n ≡ Some a → first_place arrays n + length a.words ≤ sum_by (λ (x : Array). length x.words) arrays
before_and_own [] n a there = absurd cc
before_and_own (x ∷ xs) zero a there =
    let same : x ≡ a = cc in
    let own : length x.words ≡ length a.words = ap (λ (y : Array). length y.words) same in
    omega (arith, own, sum_by-cons (λ (y : Array). length y.words) x xs)
before_and_own (x ∷ xs) (suc n) a there =
    omega (arith, before_and_own xs n a there, sum_by-cons (λ (y : Array). length y.words) x xs, sum_by-cons (λ (y : Array). length y.words) x (take n xs))

in_array : (o : Option Array) (first total p : ℕ) (z : ℤ) → ((a : Array) → o ≡ Some a → first + length a.words ≤ total) → place_in o first z ≡ Some p → p < total
in_array None first total p z fits e = absurd cc
in_array (Some a) first total p (negsuc k) fits e = absurd cc
in_array (Some a) first total p (pos k) fits e = chosen (nat_lt k (length a.words)) refl e
  where
    chosen : (b : Bool) → nat_lt k (length a.words) ≡ b → (if b then Some (first + k) else None) ≡ Some p → p < total
    chosen true lt e' = let same : first + k ≡ p = cc in omega (arith, same, fits a refl, ltb-true k (length a.words) lt)
    chosen false lt e' = absurd cc

-- a place of an array is one of memory
pub place_below : (arrays : List Array) (n p : ℕ) (z : ℤ) → place_of arrays n z ≡ Some p → p < length (first_memory arrays)
place_below arrays n p z e =
    rw (length-flat_map (λ (a : Array). a.words) arrays) (in_array (slice_get arrays n) (first_place arrays n) (sum_by (λ (x : Array). length x.words) arrays) p z (before_and_own arrays n) e)
