-- Lists with one element set or one more, and what holds of the first of them.
use Rattle.std.proofs.Common.{◌≡◌, ℕ, zero, suc, ◌+◌, ◌<◌, ◌⊎◌, inl, inr, List, [], ◌∷◌, ◌++◌, length, take, drop, get_or, Some, slice_get, refl, sym, subst, arith}
use Rattle.std.specs.Prelude.{slice_set}
use Rattle.std.proofs.lemmas.Bool.{cases_lt}
use Rattle.std.proofs.lemmas.Grind.{common_steps}
use Rattle.std.proofs.lemmas.Option.{get_or_from_slice_get, none-some, same_Some}

-- an element of a list in which one was set is that one, or as it was
pub set_cases : {X : Type 0} (xs : List X) (i n : ℕ) (a y : X) → slice_get (slice_set xs i a) n ≡ Some y → ((n ≡ i) × (y ≡ a) × (i < length xs)) ⊎ ((n ≡ i → ⊥) × (slice_get xs n ≡ Some y))
set_cases [] i n a y e = absurd (none-some y e)
set_cases (x ∷ xs) zero zero a y e = inl (refl, sym (same_Some a y e), omega arith)
set_cases (x ∷ xs) zero (suc n) a y e = inr (λ c. omega (arith, c), e)
set_cases (x ∷ xs) (suc i) zero a y e = inr (λ c. omega (arith, c), e)
set_cases (x ∷ xs) (suc i) (suc n) a y e = elim (set_cases xs i n a y e) [
  | inl same ↦ let at = same.0 in let lt = same.2 in inl (omega (arith, at), same.1, omega (arith, lt))
  | inr other ↦ inr (λ c. other.0 (omega (arith, c)), other.1)
]

-- an element of a list with one more is that one, or one of the list
pub push_cases : {X : Type 0} (xs : List X) (n : ℕ) (a y : X) → slice_get (xs ++ a ∷ []) n ≡ Some y → ((n ≡ length xs) × (y ≡ a)) ⊎ (slice_get xs n ≡ Some y)
push_cases [] zero a y e = inl (refl, sym (same_Some a y e))
push_cases [] (suc n) a y e = absurd (none-some y e)
push_cases (x ∷ xs) zero a y e = inr e
push_cases (x ∷ xs) (suc n) a y e = elim (push_cases xs n a y e) [
  | inl same ↦ let at = same.0 in inl (omega (arith, at), same.1)
  | inr other ↦ inr other
]

-- what is written through a slice of a vector's items is the vector's then
pub written : {X : Type 0} (new items : List X) (len : ℕ) → length new ≡ length items → len ≡ length items → take len (new ++ drop (length new) items) ≡ new
written new items len e f = grind (arith, common_steps)

-- what holds of the first elements, one of them more
pub further : {X : Type 0} (P : ℕ → X → Type 0) (xs : List X) (i : ℕ) (d : X) → ((k : ℕ) (x : X) → k < i → slice_get xs k ≡ Some x → P k x) → P i (get_or xs i d)
    → (k : ℕ) (x : X) → k < i + 1 → slice_get xs k ≡ Some x → P k x
further P xs i d before here k x lt at = elim (cases_lt k i) [
  | inl less ↦ before k x less at
  | inr ge ↦
      let same : i ≡ k = omega (arith, lt, ge) in
      let is : get_or xs i d ≡ x = get_or_from_slice_get xs i x d (subst (λ m. slice_get xs m ≡ Some x) (sym same) at) in
      subst (λ m. P m x) same (subst (P i) is here)
]
