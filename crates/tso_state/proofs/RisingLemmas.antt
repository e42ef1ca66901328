-- States that rise: what stands later is above, and nothing is below itself.
use Rattle.std.proofs.Common.{◌≡◌, ℕ, zero, suc, ◌<◌, List, [], ◌∷◌, Some, slice_get, subst, arith}
use Rattle.std.proofs.lemmas.Cmp.{tied_itself}
use Rattle.std.specs.Cmp.{IsTotalOrder}
use Rattle.std.specs.List.{AllByRecursion}
use Rattle.std.specs.declared.cmp.Ordering.{Ordering}
use Rattle.tso_state.proofs.OrderLemmas.{state_alike}
use Rattle.tso_state.specs.Order.{state_cmp}
use Rattle.tso_state.specs.Rising.{IsBelow, IsRising}
use Rattle.tso_state.specs.contracts.state.StateOrd.TheImpl as state_order
use Rattle.tso_state.specs.contracts.state.StateOrd.TheImpl.Laws as laws
use Rattle.tso_state.specs.declared.state.State.{State}

pub total : IsTotalOrder state_cmp
total = let f : state_order.cmp-value.it ≡ state_cmp = λ i x y. state_alike x y i in subst (λ (R : State → State → Ordering). IsTotalOrder R) f laws.total-law

pub one_of : {X : Type 0} (P : X → Type 0) (xs : List X) (k : ℕ) (x : X) → AllByRecursion P xs → slice_get xs k ≡ Some x → P x
one_of P [] k x all e = absurd cc
one_of P (y ∷ ys) zero x all e = let is : y ≡ x = cc in subst P is all.0
one_of P (y ∷ ys) (suc k) x all e = one_of P ys k x all.1 e

pub rises : (xs : List State) (i j : ℕ) (x y : State) → IsRising xs → i < j → slice_get xs i ≡ Some x → slice_get xs j ≡ Some y → IsBelow x y
rises [] i j x y rising lt e f = absurd cc
rises (z ∷ zs) i zero x y rising lt e f = absurd (omega arith)
rises (z ∷ zs) zero (suc j) x y rising lt e f = let is : z ≡ x = cc in subst (λ (w : State). IsBelow w y) is (one_of (λ w. IsBelow z w) zs j y rising.0 f)
rises (z ∷ zs) (suc i) (suc j) x y rising lt e f = rises zs i j x y rising.1 (omega arith) e f

pub not_itself : (x : State) → IsBelow x x → ⊥
not_itself x below = let tied = tied_itself total x in cc
