-- Marks by numbers.
use Rattle.std.proofs.Common.{◌≡◌, ◌∙◌, ℕ, zero, suc, ◌+◌, ◌<◌, ◌≤◌, ◌++◌, ◌⊎◌, inl, inr, Bool, true, false, List, [], ◌∷◌, length, take, slice_set, refl, ap, arith, subst}
use Rattle.std.proofs.lemmas.List.{take_all}
use Rattle.std.specs.Prelude.{IsTrue, replicate}
use Rattle.tso_search.specs.Marking.{IsMarkedToo, is_marked}

none_marked : (k n : ℕ) → is_marked (replicate k false) n ≡ false
none_marked zero n = refl
none_marked (suc k) zero = refl
none_marked (suc k) (suc n) = none_marked k n

-- past the end nothing is marked
marked_longer : (xs : List Bool) (k n : ℕ) → is_marked (xs ++ replicate k false) n ≡ is_marked xs n
marked_longer [] k n = none_marked k n
marked_longer (x ∷ xs) k zero = refl
marked_longer (x ∷ xs) k (suc n) = marked_longer xs k n

pub marked_resized : (old new : List Bool) (at k : ℕ) → length old ≤ at → new ≡ take (at + 1) old ++ replicate k false → (n : ℕ) → is_marked new n ≡ is_marked old n
marked_resized old new at k past e n =
    let all : take (at + 1) old ≡ old = take_all (at + 1) old (omega (arith, past)) in
    let same : new ≡ old ++ replicate k false = e ∙ ap (λ (xs : List Bool). xs ++ replicate k false) all in
    ap (λ (xs : List Bool). is_marked xs n) same ∙ marked_longer old k n

pub marked_set : (xs : List Bool) (at n : ℕ) → at < length xs → (IsTrue (is_marked (slice_set xs at true) n) → (n ≡ at) ⊎ IsTrue (is_marked xs n)) × ((n ≡ at) ⊎ IsTrue (is_marked xs n) → IsTrue (is_marked (slice_set xs at true) n))
marked_set [] at n lt = absurd (omega (arith, lt))
marked_set (x ∷ xs) zero zero lt = (λ h. inl refl, λ h. refl)
marked_set (x ∷ xs) zero (suc n) lt = (λ h. inr h, λ h. elim h [ inl e ↦ absurd (omega (arith, e)) | inr g ↦ g ])
marked_set (x ∷ xs) (suc at) zero lt = (λ h. inr h, λ h. elim h [ inl e ↦ absurd (omega (arith, e)) | inr g ↦ g ])
marked_set (x ∷ xs) (suc at) (suc n) lt =
    let further = marked_set xs at n (omega (arith, lt)) in
    (λ h. elim (further.0 h) [ inl e ↦ inl (ap suc e) | inr g ↦ inr g ], λ h. elim h [ inl e ↦ further.1 (inl (omega (arith, e))) | inr g ↦ further.1 (inr g) ])

-- one more is marked, after room was made
pub marked_too : (old mid : List Bool) (at : ℕ) → ((n : ℕ) → is_marked mid n ≡ is_marked old n) → at < length mid → IsMarkedToo old (slice_set mid at true) at
marked_too old mid at same room n =
    let set = marked_set mid at n room in
    (λ h. elim (set.0 h) [ inl e ↦ inl e | inr g ↦ inr (subst IsTrue (same n) g) ], λ h. elim h [ inl e ↦ set.1 (inl e) | inr g ↦ set.1 (inr (let e = same n in cc)) ])
