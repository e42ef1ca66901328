-- Lists, place by place.
use Rattle.std.proofs.Common.{◌≡◌, ◌⊎◌, ℕ, zero, suc, ◌<◌, List, [], ◌∷◌, ◌++◌, length, None, Some, inl, inr, refl, sym, arith, slice_get}

pub same_lists : {X : Type 0} (xs ys : List X) → length xs ≡ length ys → ((k : ℕ) → k < length ys → slice_get xs k ≡ slice_get ys k) → xs ≡ ys
same_lists [] [] long each = refl
same_lists [] (y ∷ ys) long each = absurd (omega (arith, long))
same_lists (x ∷ xs) [] long each = absurd (omega (arith, long))
same_lists {X = X} (x ∷ xs) (y ∷ ys) long each =
    let first : Some x ≡ Some y = each 0 (omega arith) in
    let head : x ≡ y = cc in
    let tail : xs ≡ ys = same_lists xs ys (omega (arith, long)) (λ k lt. each (suc k) (omega (arith, lt))) in
    λ i. head i ∷ tail i

-- an item of a list with one more is of the list, or the one at the end
pub at_end : {X : Type 0} (xs : List X) (y : X) (n : ℕ) (x : X) → slice_get (xs ++ y ∷ []) n ≡ Some x → (slice_get xs n ≡ Some x) ⊎ ((n ≡ length xs) × (x ≡ y))
at_end [] y zero x h = let k : y ≡ x = cc in inr (refl, sym k)
at_end [] y (suc n) x h = absurd (let k : None ≡ Some x = h in cc)
at_end (z ∷ xs) y zero x h = inl h
at_end (z ∷ xs) y (suc n) x h = up (at_end xs y n x h)
  where
    up : (slice_get xs n ≡ Some x) ⊎ ((n ≡ length xs) × (x ≡ y)) → (slice_get xs n ≡ Some x) ⊎ ((suc n ≡ suc (length xs)) × (x ≡ y))
    up (inl k) = inl k
    up (inr k) = inr (let q : suc n ≡ suc (length xs) = cc (k.0) in q, k.1)
