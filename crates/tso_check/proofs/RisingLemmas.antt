-- States that rise, one by one.
use Rattle.std.proofs.Common.{◌≡◌, ◌∙◌, ℕ, zero, suc, ◌+◌, ◌<◌, ◌≤◌, ◌++◌, ◌⊎◌, inl, inr, List, [], ◌∷◌, length, Option, None, Some, slice_get, refl, sym, ap, subst, arith, append_assoc, get_or, ◌-◌, take, drop}
use Rattle.std.proofs.lemmas.Bool.{cases_lt}
use Rattle.std.proofs.Math.Seq.{take-suc}
use Rattle.std.proofs.lemmas.List.{append-nil, length-append, map-append, take_all}
use Rattle.std.proofs.lemmas.Option.{get_or_from_slice_get, same_Some, slice_get_within, slice_get-get_or}
use Rattle.std.specs.List.{AllByRecursion}
use Rattle.tso_cert.proofs.LookupLemmas.{left_rises, right_rises}
use Rattle.tso_state.proofs.RisingLemmas.{not_itself, one_of, rises, total}
use Rattle.tso_cert.specs.Lookup.{ForksSplit, tree_states}
use Rattle.tso_state.specs.Rising.{IsAtMost, IsBelow, IsRising}
use Rattle.tso_cert.specs.Trees.{Tree, leaf, fork, records_of}
use Rattle.tso_check.specs.Risen.{AreFound, AreRisen, BeginsAbove, EndsBelow, ForksLook, GoesOn, GoesOnTo, IsFirstAtLeast, IsLast, IsLastBelow}
use Rattle.tso_check.specs.declared.rising.Risen.{Risen}
use Rattle.tso_check.specs.declared.rising.Risen.TheVariants.{To, Not}
use Rattle.tso_rec.specs.Records.{states_of}
use Rattle.tso_rec.specs.declared.record.Record.{Record}
use Rattle.tso_scan.specs.Scanned.{ForksBegin}
use Rattle.tso_state.specs.declared.state.State.{State}

pub got_left : {X : Type 0} (xs ys : List X) (k : ℕ) (x : X) → slice_get xs k ≡ Some x → slice_get (xs ++ ys) k ≡ Some x
got_left [] ys k x e = absurd (let lt = slice_get_within [] k x e in omega (arith, lt))
got_left (y ∷ xs) ys zero x e = e
got_left (y ∷ xs) ys (suc k) x e = got_left xs ys k x e

pub got_right : {X : Type 0} (xs ys : List X) (k : ℕ) → slice_get (xs ++ ys) (length xs + k) ≡ slice_get ys k
got_right [] ys k = ap (slice_get ys) (let e : 0 + k ≡ k = omega arith in e)
got_right (x ∷ xs) ys k = ap (slice_get (x ∷ (xs ++ ys))) (let e : suc (length xs) + k ≡ suc (length xs + k) = omega arith in e) ∙ got_right xs ys k

-- behind states that are all below it a state rises on
risen : (xs : List State) (y : State) → IsRising xs → ((k : ℕ) (x : State) → slice_get xs k ≡ Some x → IsBelow x y) → IsRising (xs ++ y ∷ [])
risen [] y rising all = (tt, tt)
risen (x ∷ xs) y rising all = (front xs rising.0, risen xs y rising.1 (λ k z at. all (suc k) z at))
  where
    front : (zs : List State) → AllByRecursion (λ z. IsBelow x z) zs → AllByRecursion (λ z. IsBelow x z) (zs ++ y ∷ [])
    front [] tops = (all 0 x refl, tt)
    front (z ∷ zs) tops = (tops.0, front zs tops.1)

one_more : (xs : List State) (last : Option State) (y : State) → AreRisen xs last → GoesOn last y → IsLast (xs ++ y ∷ []) y
one_more xs None y none goes = subst (λ l. IsLast (l ++ y ∷ []) y) (sym none) (record { rising = (tt, tt); before = 0; count = refl; at = refl })
one_more xs (Some x) y l below = record {
  rising = risen xs y l.rising (λ k z at. elim (cases_lt k l.before) [
    | inl less ↦ total.trans z x y (rises xs k l.before z x l.rising less at l.at) below
    | inr ge ↦
        let lt = slice_get_within xs k z at in
        let count = l.count in
        let same : l.before ≡ k = omega (arith, ge, lt, count) in
        subst (λ w. IsBelow w y) (same_Some x z (sym l.at ∙ ap (slice_get xs) same ∙ at)) below
  ]);
  before = length xs;
  count = length-append xs (y ∷ []);
  at = ap (slice_get (xs ++ y ∷ [])) (omega arith) ∙ got_right xs (y ∷ []) 0;
}

-- where it is not below, no more states help
no_more : (xs rest : List State) (last : Option State) (y : State) → AreRisen xs last → (GoesOn last y → ⊥) → IsRising (xs ++ y ∷ rest) → ⊥
no_more xs rest None y none not rising = not tt
no_more xs rest (Some x) y l not rising =
    let count = l.count in
    not (rises (xs ++ y ∷ rest) l.before (length xs + 0) x y rising (omega (arith, count)) (got_left xs (y ∷ rest) l.before x l.at) (got_right xs (y ∷ rest) 0))

-- ---- states behind others

-- the states up to this number rise, behind all states of which this is the last
pub record IsGoing (last0 : Option State) (states : List State) (n : ℕ) (last : Option State) : Type 0 where
  pub each : (before : List State) → AreRisen before last0 → AreRisen (before ++ take n states) last

pub going_none : (last : Option State) (states : List State) → IsGoing last states 0 last
going_none last states = record { each = λ before r. subst (λ l. AreRisen l last) (sym (append-nil before)) r }

pub take_more : (states : List State) (n : ℕ) (y : State) → slice_get states n ≡ Some y → take (n + 1) states ≡ take n states ++ y ∷ []
take_more states n y at =
    let lt = slice_get_within states n y at in
    ap (λ k. take k states) (let e : n + 1 ≡ suc n = omega arith in e) ∙ take-suc states n y lt ∙ ap (λ z. take n states ++ z ∷ []) (get_or_from_slice_get states n y y at)

pub going_more : (last0 : Option State) (states : List State) (n : ℕ) (last : Option State) (y : State) → IsGoing last0 states n last → slice_get states n ≡ Some y → GoesOn last y → IsGoing last0 states (n + 1) (Some y)
going_more last0 states n last y going at g = record {
  each = λ before r.
      let next = take_more states n y at in
      subst (λ l. AreRisen l (Some y)) (append_assoc before (take n states) (y ∷ []) ∙ ap (λ l. before ++ l) (sym next)) (one_more (before ++ take n states) last y (going.each before r) g);
}

split_at : (states : List State) (n : ℕ) (y : State) → slice_get states n ≡ Some y → states ≡ take n states ++ y ∷ drop (suc n) states
split_at [] n y at = absurd (let lt = slice_get_within [] n y at in omega (arith, lt))
split_at (x ∷ xs) zero y at = ap (λ z. z ∷ xs) (same_Some x y at)
split_at (x ∷ xs) (suc n) y at = ap (λ l. x ∷ l) (split_at xs n y at)

pub going_not : (last0 : Option State) (states : List State) (n : ℕ) (last : Option State) (y : State) → IsGoing last0 states n last → slice_get states n ≡ Some y → (GoesOn last y → ⊥) → GoesOnTo last0 states Not
going_not last0 states n last y going at g before r rising =
    let lt = slice_get_within states n y at in
    let rest : states ≡ take n states ++ y ∷ drop (suc n) states = split_at states n y at in
    no_more (before ++ take n states) (drop (suc n) states) last y (going.each before r) g
    (subst IsRising (ap (λ l. before ++ l) rest ∙ sym (append_assoc before (take n states) (y ∷ drop (suc n) states))) rising)

pub going_all : (last0 : Option State) (states : List State) (n : ℕ) (last : Option State) → IsGoing last0 states n last → length states ≤ n → GoesOnTo last0 states (To last)
going_all last0 states n last going le before r = subst (λ l. AreRisen (before ++ l) last) (take_all n states le) (going.each before r)

-- ---- the halves of a fork

pub right_goes_on : (left right : List Record) (last middle : Option State) (found : Risen) → GoesOnTo last (states_of left) (To middle) → GoesOnTo middle (states_of right) found → GoesOnTo last (states_of (left ++ right)) found
right_goes_on left right last middle found first second before r =
    subst (λ l. AreFound l found) (append_assoc before (states_of left) (states_of right) ∙ ap (λ l. before ++ l) (sym (map-append (λ (x : Record). x.state) left right))) (second (before ++ states_of left) (first before r))

pub left_stops : (left right : List Record) (last : Option State) → GoesOnTo last (states_of left) Not → GoesOnTo last (states_of (left ++ right)) Not
left_stops left right last first before r rising =
    first before r (front_rises (before ++ states_of left) (states_of right)
    (subst IsRising (ap (λ l. before ++ l) (map-append (λ (x : Record). x.state) left right) ∙ sym (append_assoc before (states_of left) (states_of right))) rising))
  where
    front_all : (x : State) (xs ys : List State) → AllByRecursion (λ y. IsBelow x y) (xs ++ ys) → AllByRecursion (λ y. IsBelow x y) xs
    front_all x [] ys all = tt
    front_all x (z ∷ xs) ys all = (all.0, front_all x xs ys all.1)

    front_rises : (xs ys : List State) → IsRising (xs ++ ys) → IsRising xs
    front_rises [] ys rising = tt
    front_rises (x ∷ xs) ys rising = (front_all x xs ys rising.0, front_rises xs ys rising.1)

-- ---- from nothing

pub rises_all : (states : List State) (last : Option State) → GoesOnTo None states (To last) → IsRising states
rises_all states None goes = subst IsRising (sym (goes [] refl)) tt
rises_all states (Some x) goes = (goes [] refl).rising

-- ---- forks

all_by : (P : State → Type 0) (xs : List State) → ((k : ℕ) (x : State) → slice_get xs k ≡ Some x → P x) → AllByRecursion P xs
all_by P [] each = tt
all_by P (x ∷ xs) each = (each 0 x refl, all_by P xs (λ k y at. each (suc k) y at))

-- in states that rise all are below one where the last is
below_by_last : (xs : List State) (s : State) → IsRising xs → IsLastBelow xs s → AllByRecursion (λ x. IsBelow x s) xs
below_by_last xs s rising last = all_by (λ x. IsBelow x s) xs (λ k x at. go k x at (cases_lt (k + 1) (length xs)))
  where
    go : (k : ℕ) (x : State) → slice_get xs k ≡ Some x → (k + 1 < length xs) ⊎ (length xs ≤ k + 1) → IsBelow x s
    go k x at (inl less) =
        let e = length xs - 1 in
        let there = slice_get-get_or xs (length xs - 1) x (omega (arith, less)) in
        total.trans x (get_or xs (length xs - 1) x) s (rises xs k (length xs - 1) x (get_or xs (length xs - 1) x) rising (omega (arith, less)) at there) (last (length xs - 1) (get_or xs (length xs - 1) x) (omega (arith, less)) there)
    go k x at (inr le) = let lt = slice_get_within xs k x at in last k x (omega (arith, le, lt)) at

at_most_by_first : (xs : List State) (s : State) → IsRising xs → IsFirstAtLeast xs s → AllByRecursion (λ x. IsAtMost s x) xs
at_most_by_first xs s rising first = all_by (λ x. IsAtMost s x) xs (λ k x at below. go k x at below (cases_lt 0 k))
  where
    go : (k : ℕ) (x : State) → slice_get xs k ≡ Some x → IsBelow x s → (0 < k) ⊎ (k ≤ 0) → ⊥
    go k x at below (inl more) =
        let lt = slice_get_within xs k x at in
        let there = slice_get-get_or xs 0 x (omega (arith, lt)) in
        first (get_or xs 0 x) there (total.trans (get_or xs 0 x) x s (rises xs 0 k (get_or xs 0 x) x rising more there at) below)
    go k x at below (inr none) = first x (ap (slice_get xs) (let e : 0 ≡ k = omega (arith, none) in e) ∙ at) below

both_parts : (P : State → Type 0) (left right : List Record) → AllByRecursion P (states_of left) → AllByRecursion P (states_of right) → AllByRecursion P (states_of (left ++ right))
both_parts P [] right a b = b
both_parts P (x ∷ xs) right a b = (a.0, both_parts P xs right a.1 b)

parts_of : (P : State → Type 0) (left right : List Record) → AllByRecursion P (states_of (left ++ right)) → AllByRecursion P (states_of left) × AllByRecursion P (states_of right)
parts_of P [] right all = (tt, all)
parts_of P (x ∷ xs) right all = let (a, b) = parts_of P xs right all.1 in ((all.0, a), b)

ends_below : (t : Tree) (s : State) → IsRising (tree_states t) → EndsBelow t s → AllByRecursion (λ x. IsBelow x s) (tree_states t)
ends_below (leaf rs) s rising e = below_by_last (states_of rs) s rising e
ends_below (fork l m r) s rising e =
    both_parts (λ x. IsBelow x s) (records_of l) (records_of r) (ends_below l s (left_rises (records_of l) (records_of r) rising) e.0) (ends_below r s (right_rises (records_of l) (records_of r) rising) e.1)

begins_above : (t : Tree) (s : State) → IsRising (tree_states t) → BeginsAbove t s → AllByRecursion (λ x. IsAtMost s x) (tree_states t)
begins_above (leaf rs) s rising e = at_most_by_first (states_of rs) s rising e
begins_above (fork l m r) s rising e =
    both_parts (λ x. IsAtMost s x) (records_of l) (records_of r) (begins_above l s (left_rises (records_of l) (records_of r) rising) e.0) (begins_above r s (right_rises (records_of l) (records_of r) rising) e.1)

below_ends : (t : Tree) (s : State) → AllByRecursion (λ x. IsBelow x s) (tree_states t) → EndsBelow t s
below_ends (leaf rs) s all = λ k x count at. one_of (λ x. IsBelow x s) (states_of rs) k x all at
below_ends (fork l m r) s all = let (a, b) = parts_of (λ x. IsBelow x s) (records_of l) (records_of r) all in (below_ends l s a, below_ends r s b)

above_begins : (t : Tree) (s : State) → AllByRecursion (λ x. IsAtMost s x) (tree_states t) → BeginsAbove t s
above_begins (leaf rs) s all = λ x at. one_of (λ x. IsAtMost s x) (states_of rs) 0 x all at
above_begins (fork l m r) s all = let (a, b) = parts_of (λ x. IsAtMost s x) (records_of l) (records_of r) all in (above_begins l s a, above_begins r s b)

-- where the states rise, it is enough to look at the ends of leaves
pub look_split : (t : Tree) → IsRising (tree_states t) → ForksLook t → ForksSplit t
look_split (leaf rs) rising look = tt
look_split (fork l m r) rising (a, b, c, d) =
    let left = left_rises (records_of l) (records_of r) rising in
    let right = right_rises (records_of l) (records_of r) rising in
    (look_split l left a, look_split r right b, ends_below l m left c, begins_above r m right d)

pub split_look : (t : Tree) → ForksSplit t → ForksLook t
split_look (leaf rs) split = tt
split_look (fork l m r) (a, b, c, d) = (split_look l a, split_look r b, below_ends l m c, above_begins r m d)

-- where the states rise, it is enough that each fork's state is the first of its right half
pub begins_split : (t : Tree) → IsRising (tree_states t) → ForksBegin t → ForksSplit t
begins_split (leaf rs) rising begins = tt
begins_split (fork l m r) rising (a, b, first) =
    let left = left_rises (records_of l) (records_of r) rising in
    let right = right_rises (records_of l) (records_of r) rising in
    let all = subst IsRising (map-append (λ (x : Record). x.state) (records_of l) (records_of r)) rising in
    let there : slice_get (tree_states l ++ tree_states r) (length (tree_states l) + 0) ≡ Some m = got_right (tree_states l) (tree_states r) 0 ∙ first in (
      begins_split l left a,
      begins_split r right b,
      all_by (λ x. IsBelow x m) (tree_states l) (λ k x at. let lt = slice_get_within (tree_states l) k x at in rises (tree_states l ++ tree_states r) k (length (tree_states l) + 0) x m all (omega (arith, lt)) (got_left (tree_states l) (tree_states r) k x at) there),
      at_most_by_first (tree_states r) m right (λ x at below. not_itself m (subst (λ y. IsBelow y m) (same_Some x m (sym at ∙ first)) below)),
    )
