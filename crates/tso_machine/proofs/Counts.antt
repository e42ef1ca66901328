-- Counts of back jumps and their bounds.
use Rattle.std.proofs.Common.{◌≡◌, ◌∙◌, ℕ, zero, suc, ◌+◌, ◌<◌, ◌≤◌, Bool, true, false, nat_le, List, [], ◌∷◌, take, replicate, Some, slice_get, slice_set, refl, arith, if◌then◌else◌}
use Rattle.std.specs.List.{sum, list_all}
use Rattle.std.proofs.lemmas.Bool.{and_parts, and_from, leb-true, le-leb, cond_both}
use Rattle.std.proofs.lemmas.List.Sums.{sum_by-cons}
use Rattle.std.proofs.lemmas.List.Folds.{sum_by-replicate}
use Rattle.tso_line.specs.declared.instruction.Instruction.{Instruction}
use Rattle.tso_flow.specs.Calls.{bound_of, bounds_of}
use Rattle.tso_machine.specs.Instructions.{back_jumps, is_back_jump}
use Rattle.tso_machine.specs.Soundness.{are_within, back_bounds}

-- ---- counts below their bounds

pub sum_more : (x : ℕ) (xs : List ℕ) → sum (x ∷ xs) ≡ x + sum xs
sum_more x xs = sum_by-cons (λ (n : ℕ). n) x xs

pub sum_within : (counts bounds : List ℕ) → are_within counts bounds ≡ true → sum counts ≤ sum bounds
sum_within [] [] e = omega arith
sum_within [] (b ∷ bs) e = absurd cc
sum_within (t ∷ ts) [] e = absurd cc
sum_within (t ∷ ts) (b ∷ bs) e =
    let parts = and_parts (nat_le t b) (are_within ts bs) e in
    omega (arith, leb-true t b parts.0, sum_within ts bs parts.1, sum_more t ts, sum_more b bs)

pub within_counted : (counts bounds : List ℕ) (n count bound : ℕ) → are_within counts bounds ≡ true → slice_get counts n ≡ Some count → slice_get bounds n ≡ Some bound → count < bound
    → are_within (slice_set counts n (count + 1)) bounds ≡ true
within_counted [] bounds n count bound e there here lt = absurd cc
within_counted (t ∷ ts) [] n count bound e there here lt = absurd cc
within_counted (t ∷ ts) (b ∷ bs) zero count bound e there here lt =
    let parts = and_parts (nat_le t b) (are_within ts bs) e in
    let same : b ≡ bound = cc in
    and_from (nat_le (count + 1) b) (are_within ts bs) (le-leb (count + 1) b (omega (arith, same))) parts.1
within_counted (t ∷ ts) (b ∷ bs) (suc n) count bound e there here lt =
    let parts = and_parts (nat_le t b) (are_within ts bs) e in
    and_from (nat_le t b) (are_within (slice_set ts n (count + 1)) bs) parts.0 (within_counted ts bs n count bound parts.1 there here lt)

pub sum_counted : (counts : List ℕ) (n count : ℕ) → slice_get counts n ≡ Some count → sum (slice_set counts n (count + 1)) ≡ sum counts + 1
sum_counted [] n count there = absurd cc
sum_counted (t ∷ ts) zero count there =
    let same : t ≡ count = cc in omega (arith, same, sum_more t ts, sum_more (count + 1) ts)
sum_counted (t ∷ ts) (suc n) count there =
    omega (arith, sum_counted ts n count there, sum_more t ts, sum_more t (slice_set ts n (count + 1)))

-- ---- the bounds of back jumps

behind_first : (b : Bool) (n x : ℕ) (rest : List ℕ) → slice_get (if b then x ∷ rest else rest) ((if b then 1 else 0) + n) ≡ slice_get rest n
behind_first true n x rest = let one : 1 + n ≡ suc n = omega arith in rw one refl
behind_first false n x rest = let none : 0 + n ≡ n = omega arith in rw none refl

-- the number of a back jump among the back jumps is that of its bound
pub bound_at : (at k : ℕ) (is : List (Instruction ℕ ℕ)) (i : Instruction ℕ ℕ) → slice_get is k ≡ Some i → is_back_jump (at + k) i ≡ true
    → slice_get (back_bounds at is) (back_jumps at (take k is)) ≡ Some (bound_of i)
bound_at at k [] i there back = absurd cc
bound_at at zero (x ∷ xs) i there back =
    let same : x ≡ i = cc in
    let none : at + 0 ≡ at = omega arith in
    let first : is_back_jump at i ≡ true = rw none at back in
    rw (same, first) refl
bound_at at (suc k) (x ∷ xs) i there back =
    let more : at + suc k ≡ (at + 1) + k = omega arith in
    behind_first (is_back_jump at x) (back_jumps (at + 1) (take k xs)) (bound_of x) (back_bounds (at + 1) xs)
    ∙ bound_at (at + 1) k xs i there (rw more at back)

one_more_zero : (b : Bool) (n x : ℕ) (rest : List ℕ) → are_within (replicate n 0) rest ≡ true
    → are_within (replicate ((if b then 1 else 0) + n) 0) (if b then x ∷ rest else rest) ≡ true
one_more_zero true n x rest e =
    let one : 1 + n ≡ suc n = omega arith in rw one (and_from (nat_le 0 x) (are_within (replicate n 0) rest) (le-leb 0 x (omega arith)) e)
one_more_zero false n x rest e = let none : 0 + n ≡ n = omega arith in rw none e

-- at first no back jump was taken
pub zeros_within : (at : ℕ) (is : List (Instruction ℕ ℕ)) → are_within (replicate (back_jumps at is) 0) (back_bounds at is) ≡ true
zeros_within at [] = refl
zeros_within at (x ∷ xs) = one_more_zero (is_back_jump at x) (back_jumps (at + 1) xs) (bound_of x) (back_bounds (at + 1) xs) (zeros_within (at + 1) xs)

pub sum_zeros : (n : ℕ) → sum (replicate n 0) ≡ 0
sum_zeros n = omega (arith, sum_by-replicate (λ (x : ℕ). x) n 0)

-- the bounds of the back jumps are among the bounds of all instructions
pub bounds_below : (at : ℕ) (is : List (Instruction ℕ ℕ)) → sum (back_bounds at is) ≤ bounds_of is
bounds_below at [] = omega arith
bounds_below at (x ∷ xs) =
    let rest = bounds_below (at + 1) xs in
    let all = sum_by-cons bound_of x xs in
    let P : List ℕ → Type 0 = λ l. sum l ≤ bounds_of (x ∷ xs) in
    cond_both (is_back_jump at x) (bound_of x ∷ back_bounds (at + 1) xs) (back_bounds (at + 1) xs) P
    (λ e. omega (arith, rest, all, sum_more (bound_of x) (back_bounds (at + 1) xs))) (λ e. omega (arith, rest, all))

-- ---- tests of all instructions

pub passes_at : {X : Type 0} (test : X → Bool) (xs : List X) (k : ℕ) (x : X) → list_all test xs ≡ true → slice_get xs k ≡ Some x → test x ≡ true
passes_at test [] k x all there = absurd cc
passes_at test (y ∷ ys) zero x all there = let same : y ≡ x = cc in rw (← same) (and_parts (test y) (list_all test ys) all).0
passes_at test (y ∷ ys) (suc k) x all there = passes_at test ys k x (and_parts (test y) (list_all test ys) all).1 there
