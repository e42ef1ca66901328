-- The order of all states, from that of neighbours.
use Rattle.std.proofs.Common.{◌≡◌, ◌∙◌, ℕ, suc, ◌+◌, ◌-◌, ◌<◌, ◌≤◌, Bool, List, [], ◌∷◌, ◌++◌, length, inl, inr, Some, refl, slice_get, sym, ap, subst, arith}
use Rattle.std.specs.Prelude.{◌↔◌, IsTrue}
use Rattle.std.proofs.lemmas.Bool.{cases_lt}
use Rattle.std.proofs.lemmas.Option.{same_Some, slice_get_within}
use Rattle.std.specs.List.{AllByRecursion}
use Rattle.std.specs.declared.cmp.Ordering.{Ordering}
use Rattle.std.specs.declared.cmp.Ordering.TheVariants.{Less}
use Rattle.tso_state.proofs.RisingLemmas.{not_itself, rises, total}
use Rattle.tso_state.specs.Rising.{IsBelow, IsRising}
use Rattle.tso_parts.proofs.Marked.{item_at}
use Rattle.tso_parts.specs.Numbers.{IsNumbered}
use Rattle.tso_scan.specs.Neighbours.{RisesBetween}
use Rattle.tso_state.specs.Order.{state_cmp}
use Rattle.tso_state.specs.declared.state.State.{State}
use Rattle.tso_keys.specs.Orders.{IsOrderOf}

-- the order of two states is the one that was found
pub is_less_at : (states : List State) (n m : ℕ) (o : Ordering) (r : Bool) → IsOrderOf states n m o → (IsTrue r ↔ (o ≡ Less)) → IsTrue r ↔ IsOrderOf states n m Less
is_less_at states n m o r found is = (
  λ h. subst (IsOrderOf states n m) (is.0 h) found,
  λ less.
      let left : found.first ≡ less.first = same_Some found.first less.first (sym found.first_at ∙ less.first_at) in
      let right : found.second ≡ less.second = same_Some found.second less.second (sym found.second_at ∙ less.second_at) in
      is.1 (found.order ∙ (λ i. state_cmp (left i) (right i)) ∙ sym less.order),
)

pub rises_none : (states : List State) (from : ℕ) → RisesBetween states from from
rises_none states from = λ k le lt. absurd (omega (arith, le, lt))

pub rises_more : (states : List State) (from to : ℕ) → RisesBetween states from to → IsOrderOf states (to - 1) to Less → RisesBetween states from (to + 1)
rises_more states from to so_far next = λ k le lt. elim (cases_lt k to) [
  | inl less ↦ so_far k le less
  | inr ge ↦ let same : to ≡ k = omega (arith, lt, ge) in subst (λ n. IsOrderOf states (n - 1) n Less) same next
]

-- ---- all states

all_above : (x y : State) (ys : List State) → IsBelow x y → AllByRecursion (λ z. IsBelow y z) ys → AllByRecursion (λ z. IsBelow x z) ys
all_above x y [] below all = tt
all_above x y (z ∷ zs) below all = (total.trans x y z below all.0, all_above x y zs below all.1)

-- where each is below the next, all rise
rises_by_next : (states : List State) → ((k : ℕ) (x y : State) → slice_get states k ≡ Some x → slice_get states (k + 1) ≡ Some y → IsBelow x y) → IsRising states
rises_by_next [] next = tt
rises_by_next (x ∷ []) next = (tt, tt)
rises_by_next (x ∷ y ∷ ys) next =
    let below = next 0 x y refl refl in
    let rest = rises_by_next (y ∷ ys) (λ k z w at there. next (k + 1) z w (ap (slice_get (x ∷ y ∷ ys)) (let e : k + 1 ≡ suc k = omega arith in e) ∙ at) (ap (slice_get (x ∷ y ∷ ys)) (let e : k + 1 + 1 ≡ suc (k + 1) = omega arith in e) ∙ there)) in
    ((below, all_above x y ys below rest.0), rest)

next_below : (states : List State) → RisesBetween states 1 (length states) → (k : ℕ) (x y : State) → slice_get states k ≡ Some x → slice_get states (k + 1) ≡ Some y → IsBelow x y
next_below states all k x y at there =
    let o = all (k + 1) (omega arith) (slice_get_within states (k + 1) y there) in
    let e : k + 1 - 1 ≡ k = omega arith in
    let left : o.first ≡ x = same_Some o.first x (sym o.first_at ∙ ap (slice_get states) e ∙ at) in
    let right : o.second ≡ y = same_Some o.second y (sym o.second_at ∙ there) in
    subst (λ u. IsBelow u y) left (subst (IsBelow o.first) right (sym o.order))

above_last : (states : List State) → IsRising states → (k : ℕ) → 1 ≤ k → k < length states → IsOrderOf states (k - 1) k Less
above_last states rising k some lt =
    item_at states (k - 1) (omega (arith, some, lt)) (λ x at.
    item_at states k lt (λ y there.
    record { first = x; second = y; first_at = at; second_at = there; order = sym (rises states (k - 1) k x y rising (omega (arith, some)) at there) }))

-- states rise where each but the first is above the one before
pub rising_by_neighbours : (states : List State) (n : ℕ) (r : Bool) → n ≡ length states → (IsTrue r ↔ RisesBetween states 1 n) → IsTrue r ↔ IsRising states
rising_by_neighbours states n r long found = (
  λ e. rises_by_next states (next_below states (subst (RisesBetween states 1) long (found.0 e))),
  λ rising. found.1 (λ k some lt. above_last states rising k some (omega (arith, lt, long))),
)

joined_rises : (xs ys : List State) → IsRising xs → IsRising ys → ((n : ℕ) (a b : State) → suc n ≡ length xs → slice_get (xs ++ ys) n ≡ Some a → slice_get (xs ++ ys) (suc n) ≡ Some b → IsBelow a b) → IsRising (xs ++ ys)
joined_rises [] ys one two meet = two
joined_rises (x ∷ []) [] one two meet = (tt, tt)
joined_rises (x ∷ []) (y ∷ ys) one two meet = let below = meet 0 x y refl refl refl in ((below, all_above x y ys below two.0), two)
joined_rises (x ∷ z ∷ xs) ys one two meet =
    let rest = joined_rises (z ∷ xs) ys one.1 two (λ n a b e at there. meet (suc n) a b (ap suc e) at there) in
    ((one.0.0, all_above x z (xs ++ ys) one.0.0 rest.0), rest)

-- states rise that were put behind others, where both do, and the first of them is above the last of those
pub rises_behind : (old others new : List State) (n : ℕ) → new ≡ old ++ others → n ≡ length old → IsRising old → IsRising others → (0 < n → IsOrderOf new (n - 1) n Less) → IsRising new
rises_behind old others new n is long one two meet =
    subst IsRising (sym is) (joined_rises old others one two (λ m a b e at there.
    let o = meet (omega (arith, long, e)) in
    let p : n - 1 ≡ m = omega (arith, long, e) in
    let q : n ≡ suc m = omega (arith, long, e) in
    let left : o.first ≡ a = same_Some o.first a (sym o.first_at ∙ (λ i. slice_get (is i) (p i)) ∙ at) in
    let right : o.second ≡ b = same_Some o.second b (sym o.second_at ∙ (λ i. slice_get (is i) (q i)) ∙ there) in
    subst (λ u. IsBelow u b) left (subst (IsBelow o.first) right (sym o.order))))

-- states that rise are all different
pub rising_differ : (states : List State) → IsRising states → IsNumbered states
rising_differ states rising i j x e f = elim (cases_lt i j) [
  | inl less ↦ absurd (not_itself x (rises states i j x x rising less e f))
  | inr ge ↦ elim (cases_lt j i) [
    | inl more ↦ absurd (not_itself x (rises states j i x x rising more f e))
    | inr le ↦ omega (arith, ge, le)
  ]
]
