-- What a tree has: a search by halves in states that rise, and the right half of a fork.
use Rattle.std.proofs.Common.{◌≡◌, ℕ, ◌+◌, ◌≤◌, ◌<◌, Bool, List, [], ◌∷◌, ◌++◌, length, get_or, Option, Some, None, option_map, slice_get, refl, ap, subst, ◌∙◌, arith, inl, inr}
use Rattle.std.proofs.lemmas.Bool.{cases_lt}
use Rattle.std.proofs.lemmas.List.{map-append}
use Rattle.std.proofs.lemmas.List.Elements.{Contains-append_left, Contains-append_right, Contains-append_cases}
use Rattle.std.proofs.lemmas.Option.{get_or_from_slice_get, slice_get-get_or, slice_get_within}
use Rattle.std.specs.List.{AllByRecursion}
use Rattle.std.specs.Prelude.{◌↔◌, IsTrue, Contains}
use Rattle.std.specs.declared.cmp.Ordering.{Ordering}
use Rattle.std.specs.declared.cmp.Ordering.TheVariants.{Less, Greater}
use Rattle.tso_rec.specs.Records.{states_of}
use Rattle.tso_rec.specs.declared.record.Record.{Record}
use Rattle.tso_state.proofs.RisingLemmas.{not_itself, one_of, rises, total}
use Rattle.tso_state.specs.Order.{state_cmp}
use Rattle.tso_state.specs.declared.state.State.{State}
use Rattle.tso_cert.specs.Lookup.{IsOrdered}
use Rattle.tso_state.specs.Rising.{IsBelow, IsAtMost, IsRising}
use Rattle.tso_cert.specs.Search.{IsSearchable, IsSplit}
use Rattle.tso_cert.specs.Trees.{Tree, leaf, fork, records_of}

same_item : (xs : List State) (i j : ℕ) (x y : State) → i ≡ j → slice_get xs i ≡ Some x → slice_get xs j ≡ Some y → x ≡ y
same_item xs i j x y same e f = let g : slice_get xs i ≡ slice_get xs j = ap (slice_get xs) same in cc

-- the state at a place, and how it is ordered
pub ordered_at : (xs : List State) (s : State) (k : ℕ) (o : Ordering) → option_map (λ x. state_cmp x s) (slice_get xs k) ≡ Some o → (m : State) × (slice_get xs k ≡ Some m) × (state_cmp m s ≡ o)
ordered_at xs s k o e = by_option (slice_get xs k) refl e
  where
    by_option : (r : Option State) → slice_get xs k ≡ r → option_map (λ x. state_cmp x s) r ≡ Some o → (m : State) × (slice_get xs k ≡ Some m) × (state_cmp m s ≡ o)
    by_option (Some m) at f = (m, at, cc)
    by_option None at f = absurd cc

-- the middle is below
pub go_right : (xs : List State) (s m : State) (low high middle : ℕ) → IsRising xs → IsSplit xs s low high → middle < high → slice_get xs middle ≡ Some m → state_cmp m s ≡ Less → IsSplit xs s (middle + 1) high
go_right xs s m low high middle rising split lt e less = record {
  below = λ k x under at. elim (cases_lt k middle) [
    | inl before ↦ total.trans x m s (rises xs k middle x m rising before at e) less
    | inr behind ↦ subst (λ (w : State). IsBelow w s) (same_item xs middle k m x (omega (arith, under, behind)) e at) less
  ];
  above = split.above;
  bound = split.bound;
}

-- the middle is above
pub go_left : (xs : List State) (s m : State) (low high middle : ℕ) → IsRising xs → IsSplit xs s low high → middle < high → slice_get xs middle ≡ Some m → state_cmp m s ≡ Greater → IsSplit xs s low middle
go_left xs s m low high middle rising split lt e greater =
    let flipped = total.antisymm s m in
    let less : state_cmp s m ≡ Less = rw greater at flipped in
    record {
      below = split.below;
      above = λ k x over at. elim (cases_lt middle k) [
        | inl behind ↦ total.trans s m x less (rises xs middle k m x rising behind e at)
        | inr before ↦ subst (λ (w : State). IsBelow s w) (same_item xs middle k m x (omega (arith, over, before)) e at) less
      ];
      bound = omega (arith, split.bound, lt);
    }

pub begins : (xs : List State) (s : State) (n : ℕ) → n ≡ length xs → IsSplit xs s 0 n
begins xs s n long = record {
  below = λ k x under at. absurd (omega (arith, under));
  above = λ k x over at. let inside = slice_get_within xs k x at in absurd (omega (arith, inside, over, long));
  bound = omega (arith, long);
}

pub is_there : (xs : List State) (s : State) (k : ℕ) → slice_get xs k ≡ Some s → Contains xs s
is_there xs s k e = (k, slice_get_within xs k s e, get_or_from_slice_get xs k s s e)

pub is_nowhere : (xs : List State) (s : State) (low high : ℕ) → IsSplit xs s low high → high ≤ low → Contains xs s → ⊥
is_nowhere xs s low high split met (k, inside, is) =
    let at : slice_get xs k ≡ Some s = slice_get-get_or xs k s inside ∙ ap Some is in
    elim (cases_lt k low) [
      | inl under ↦ not_itself s (split.below k s under at)
      | inr over ↦ not_itself s (split.above k s (omega (arith, over, met)) at)
    ]

-- ---- forks

-- what holds of each element holds of one that the list contains
of_one : {X : Type 0} (P : X → Type 0) (xs : List X) (x : X) → AllByRecursion P xs → (k : ℕ) → k < length xs → get_or xs k x ≡ x → P x
of_one P xs x all k lt e = one_of P xs k x all (slice_get-get_or xs k x lt ∙ ap Some e)

pub left_only : (left right : List Record) (s m : State) (r : Bool) → IsBelow s m → AllByRecursion (λ x. IsAtMost m x) (states_of right) → IsTrue r ↔ Contains (states_of left) s
    → IsTrue r ↔ Contains (states_of (left ++ right)) s
left_only left right s m r below all h =
    rw map-append (
      λ k. Contains-append_left (states_of left) (states_of right) s (h.0 k),
      λ k. elim (Contains-append_cases (states_of left) (states_of right) s k) [
        | inl here ↦ h.1 here
        | inr there ↦ absurd (of_one (λ x. IsAtMost m x) (states_of right) s all there.0 there.1 there.2 below)
      ],
    )

pub right_only : (left right : List Record) (s m : State) (r : Bool) → (IsBelow s m → ⊥) → AllByRecursion (λ x. IsBelow x m) (states_of left) → IsTrue r ↔ Contains (states_of right) s
    → IsTrue r ↔ Contains (states_of (left ++ right)) s
right_only left right s m r not_below all h =
    rw map-append (
      λ k. Contains-append_right (states_of left) (states_of right) s (h.0 k),
      λ k. elim (Contains-append_cases (states_of left) (states_of right) s k) [
        | inl here ↦ absurd (not_below (of_one (λ x. IsBelow x m) (states_of left) s all here.0 here.1 here.2))
        | inr there ↦ h.1 there
      ],
    )

-- each half of a list that rises does
pub left_rises : (left right : List Record) → IsRising (states_of (left ++ right)) → IsRising (states_of left)
left_rises [] right rising = tt
left_rises (x ∷ xs) right rising = (front x.state xs right rising.0, left_rises xs right rising.1)
  where
    front : (s : State) (xs ys : List Record) → AllByRecursion (λ y. IsBelow s y) (states_of (xs ++ ys)) → AllByRecursion (λ y. IsBelow s y) (states_of xs)
    front s [] ys all = tt
    front s (x ∷ xs) ys all = (all.0, front s xs ys all.1)

pub right_rises : (left right : List Record) → IsRising (states_of (left ++ right)) → IsRising (states_of right)
right_rises [] right rising = rising
right_rises (x ∷ xs) right rising = right_rises xs right rising.1

pub searchable : (t : Tree) → IsOrdered t → IsSearchable t
searchable (leaf records) (rising, split) = rising
searchable (fork left s right) (rising, split) = (
  searchable left (left_rises (records_of left) (records_of right) rising, split.0),
  searchable right (right_rises (records_of left) (records_of right) rising, split.1),
  split.2,
  split.3,
)
