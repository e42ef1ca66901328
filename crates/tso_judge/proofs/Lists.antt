-- Lists in which each item has a property, by its place.
use Rattle.std.proofs.Common.{◌≡◌, ℕ, zero, suc, Bool, true, List, [], ◌∷◌, ◌++◌, map, Some, slice_get, refl, subst, arith}
use Rattle.std.specs.Prelude.{slice_index, slice_index_or, slice_set}
use Rattle.std.specs.List.{flat_map, list_all}
use Rattle.std.proofs.lemmas.Bool.{and_parts}
use Rattle.std.proofs.lemmas.Option.{same_Some}
use Rattle.tso_code.specs.Numbers.{IsWord}
use Rattle.tso_judge.specs.Words.{AreWords}

-- each item, by its place
abbrev pub Each : {X : Type 0} → (X → Type 0) → List X → Type 0
Each {X} P xs = (n : ℕ) (x : X) → slice_get xs n ≡ Some x → P x

pub each_none : {X : Type 0} (P : X → Type 0) → Each P []
each_none P n x e = absurd cc

pub each_more : {X : Type 0} (P : X → Type 0) (x : X) (xs : List X) → P x → Each P xs → Each P (x ∷ xs)
each_more P x xs h rest zero y e = subst P (same_Some x y e) h
each_more P x xs h rest (suc n) y e = rest n y e

pub each_rest : {X : Type 0} (P : X → Type 0) (x : X) (xs : List X) → Each P (x ∷ xs) → Each P xs
each_rest P x xs h n y e = h (suc n) y e

pub each_set : {X : Type 0} (P : X → Type 0) (xs : List X) (i : ℕ) (x : X) → Each P xs → P x → Each P (slice_set xs i x)
each_set P [] i x h p = h
each_set P (y ∷ ys) zero x h p = each_more P x ys p (each_rest P y ys h)
each_set P (y ∷ ys) (suc i) x h p = each_more P y (slice_set ys i x) (h zero y refl) (each_set P ys i x (each_rest P y ys h) p)

pub each_append : {X : Type 0} (P : X → Type 0) (xs ys : List X) → Each P xs → Each P ys → Each P (xs ++ ys)
each_append P [] ys h g = g
each_append P (x ∷ xs) ys h g = each_more P x (xs ++ ys) (h zero x refl) (each_append P xs ys (each_rest P x xs h) g)

pub each_or : {X : Type 0} (P : X → Type 0) (xs : List X) (i : ℕ) (d : X) → Each P xs → P d → P (slice_index_or xs i d)
each_or P [] i d h p = p
each_or P (x ∷ xs) zero d h p = h zero x refl
each_or P (x ∷ xs) (suc i) d h p = each_or P xs i d (each_rest P x xs h) p

pub each_map : {X Y : Type 0} (P : Y → Type 0) (f : X → Y) (xs : List X) → Each (λ x. P (f x)) xs → Each P (map f xs)
each_map P f [] h = each_none P
each_map P f (x ∷ xs) h = each_more P (f x) (map f xs) (h zero x refl) (each_map P f xs (each_rest (λ x. P (f x)) x xs h))

pub each_joined : {X Y : Type 0} (P : Y → Type 0) (f : X → List Y) (xs : List X) → Each (λ x. Each P (f x)) xs → Each P (flat_map f xs)
each_joined P f [] h = each_none P
each_joined P f (x ∷ xs) h = each_append P (f x) (flat_map f xs) (h zero x refl) (each_joined P f xs (each_rest (λ x. Each P (f x)) x xs h))

-- each item passes a test that all pass
pub each_passes : {X : Type 0} (p : X → Bool) (xs : List X) → list_all p xs ≡ true → Each (λ x. p x ≡ true) xs
each_passes p [] h = each_none (λ x. p x ≡ true)
each_passes p (x ∷ xs) h = let both = and_parts (p x) (list_all p xs) h in each_more (λ x. p x ≡ true) x xs both.0 (each_passes p xs both.1)

pub each_so : {X : Type 0} (P Q : X → Type 0) (xs : List X) → ((x : X) → P x → Q x) → Each P xs → Each Q xs
each_so P Q xs f h n x e = f x (h n x e)

pub zero_word : IsWord 0
zero_word = omega arith

pub word_at : (xs : List ℕ) (n : ℕ) → AreWords xs → IsWord (slice_index xs n)
word_at [] n h = zero_word
word_at (x ∷ xs) zero h = h zero x refl
word_at (x ∷ xs) (suc n) h = word_at xs n (each_rest IsWord x xs h)
