-- That states have an order of their numbers, before one is made.
use Rattle.std.proofs.Common.{◌≡◌, ℕ, zero, suc, ◌+◌, Bool, true, false, if◌then◌else◌, List, [], ◌∷◌, length, get_or, slice_get, refl, ap, ◌∙◌, arith}
use Rattle.std.proofs.lemmas.List.MinMax.{ranks_by}
use Rattle.std.proofs.lemmas.List.Sorted.{IsPermutation-cons, IsPermutation-middle, IsPermutation-refl, IsPermutation-trans}
use Rattle.std.specs.Cmp.{IsStrictWeakOrder}
use Rattle.std.specs.Cmp.Lexicographic.{options_total}
use Rattle.std.specs.List.Sorted.{IsPermutation, IsSortedBy}
use Rattle.std.specs.Option.{option_cmp}
use Rattle.std.specs.Ordering.{is_lt}
use Rattle.tso_state.proofs.RisingLemmas.{total}
use Rattle.tso_state.specs.Order.{state_cmp}
use Rattle.tso_state.specs.declared.state.State.{State}
use Rattle.tso_keys.specs.Orders.{IsRising, numbers_below}

-- ---- any list

module _ {X : Type 0} (lt : X → X → Bool) (order : IsStrictWeakOrder lt) where
  -- the item before the first that is not less than it
  abbrev put : X → List X → List X
  put x [] = x ∷ []
  put x (y ∷ ys) = if lt y x then y ∷ put x ys else x ∷ (y ∷ ys)

  abbrev sorted : List X → List X
  sorted [] = []
  sorted (x ∷ xs) = put x (sorted xs)

  -- the first item, if there is one, is not less than this one
  abbrev IsNotAbove : X → List X → Type 0
  IsNotAbove x [] = Unit {0}
  IsNotAbove x (y ∷ ys) = lt y x ≡ false

  abbrev Rises : List X → Type 0
  Rises [] = Unit {0}
  Rises (x ∷ xs) = IsNotAbove x xs × Rises xs

  put_above : (a x : X) (ys : List X) → lt x a ≡ false → IsNotAbove a ys → IsNotAbove a (put x ys)
  put_above a x [] e h = e
  put_above a x (y ∷ ys) e h = go (lt y x)
    where
      go : (b : Bool) → IsNotAbove a (if b then y ∷ put x ys else x ∷ (y ∷ ys))
      go true = h
      go false = e

  put_rises : (x : X) (ys : List X) → Rises ys → Rises (put x ys)
  put_rises x [] up = (tt, tt)
  put_rises x (y ∷ ys) up = go (lt y x) refl (put_rises x ys up.1)
    where
      go : (b : Bool) → lt y x ≡ b → Rises (put x ys) → Rises (if b then y ∷ put x ys else x ∷ (y ∷ ys))
      go true e rest = (put_above y x ys (order.one_way y x e) up.0, rest)
      go false e rest = (e, up)

  sorted_rises : (xs : List X) → Rises (sorted xs)
  sorted_rises [] = tt
  sorted_rises (x ∷ xs) = put_rises x (sorted xs) (sorted_rises xs)

  put_shuffles : (x : X) (ys : List X) → IsPermutation (x ∷ ys) (put x ys)
  put_shuffles x [] = IsPermutation-refl (x ∷ [])
  put_shuffles x (y ∷ ys) = go (lt y x) (put_shuffles x ys)
    where
      go : (b : Bool) → IsPermutation (x ∷ ys) (put x ys) → IsPermutation (x ∷ (y ∷ ys)) (if b then y ∷ put x ys else x ∷ (y ∷ ys))
      go true rest = IsPermutation-trans _ _ _ (IsPermutation-middle (x ∷ []) y ys) (IsPermutation-cons y _ _ rest)
      go false rest = IsPermutation-refl (x ∷ (y ∷ ys))

  sorted_shuffles : (xs : List X) → IsPermutation xs (sorted xs)
  sorted_shuffles [] = IsPermutation-refl []
  sorted_shuffles (x ∷ xs) = IsPermutation-trans _ _ _ (IsPermutation-cons x _ _ (sorted_shuffles xs)) (put_shuffles x (sorted xs))

  by_place : (xs : List X) → Rises xs → IsSortedBy lt xs
  by_place [] up k d low less = absurd (omega (arith, less))
  by_place (x ∷ []) up k d low less = absurd (omega (arith, less))
  by_place (x ∷ (y ∷ ys)) up zero d low less = up.0
  by_place (x ∷ (y ∷ ys)) up (suc k) d low less =
      let next : suc k + 1 ≡ suc (k + 1) = omega arith in
      ap (λ j. lt (get_or (x ∷ (y ∷ ys)) j d) (get_or (x ∷ (y ∷ ys)) (suc k) d)) next ∙ by_place (y ∷ ys) up.1 k d (omega arith) (omega (arith, less))

-- ---- states

pub order_is_there : (states : List State) → (ns : List ℕ) × IsRising states ns
order_is_there states =
    let lt = λ (n m : ℕ). is_lt (option_cmp state_cmp (slice_get states n) (slice_get states m)) in
    let order = ranks_by (options_total total) (slice_get states) in
    let all = numbers_below (length states) in
    (sorted lt order all, record { all = sorted_shuffles lt order all; rising = by_place lt order (sorted lt order all) (sorted_rises lt order all) })
