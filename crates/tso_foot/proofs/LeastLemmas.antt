-- Items that take up their own accesses and their successors' items.
use Rattle.std.proofs.Common.{◌≡◌, ◌∙◌, ℕ, zero, suc, Bool, not, ◌&&◌, ◌||◌, ◌==◌, nat_lt, get_or, refl, subst, slice_get, ◌+◌, ◌-◌, ◌<◌, ◌≤◌, ◌^◌, true, false, List, [], ◌∷◌, length, length-set, replicate, Option, None, Some, sym, ap, arith, inl, inr, ◌⊎◌}
use Rattle.std.specs.Prelude.{bit_or, slice_set}
use Rattle.std.specs.List.{list_all}
use Rattle.std.proofs.Math.Pow.{pow-lt}
use Rattle.std.proofs.lemmas.Bool.{and_from, and_parts, cases_eq, cases_lt, eq-eqb, eqb-true, ltb-true, or_left, or_right}
use Rattle.std.proofs.lemmas.List.{get_or-set_other, get_or-set_same, get_or_past, length-replicate, set-get_or}
use Rattle.std.proofs.lemmas.Option.{get_or_from_slice_get, same_Some, slice_get-get_or, slice_get_within}
use Rattle.std.proofs.lemmas.List.Sums.{sum_by-set}
use Rattle.std.proofs.lemmas.Nat.{le_or_l, or_lt, pow_pos}
use Rattle.std.proofs.lemmas.Nat.Bits.{bit_at-zero}
use Rattle.tso_flow.specs.Paths.{goes_on, is_at, next_of, target_of}
use Rattle.tso_foot.proofs.BitLemmas.{IsIn, both_in, covers_in, in_covers, left_in, none_in, right_in}
use Rattle.tso_foot.proofs.MaskLemmas.{holds_reads, holds_writes}
use Rattle.tso_foot.specs.Closed.{IsAbove, IsItem, IsListClosed}
use Rattle.tso_foot.specs.Least.{AreJoined, AreWithin, IsGrowing, joined, masks_if, room}
use Rattle.tso_foot.specs.Masks.{has_array, holds, masks_at, no_masks, own_masks, union}
use Rattle.tso_foot.specs.declared.masks.Masks.{Masks}
use Rattle.tso_line.specs.declared.instruction.Instruction.{Instruction}
use Rattle.tso_line.specs.declared.instruction.Instruction.TheVariants as the
use Rattle.tso_prog.specs.Limits.{are_arrays_below, has_array_below}

-- what is joined has all that was there
or_three : (a b c d : ℕ) → a ≤ bit_or (bit_or (bit_or a b) c) d
or_three a b c d = omega (arith, le_or_l a b, le_or_l (bit_or a b) c, le_or_l (bit_or (bit_or a b) c) d)

pub joined_reads : (items : List Masks) (i : ℕ) (step : Instruction ℕ ℕ) → (masks_at items i).reads ≤ (joined items i step).reads
joined_reads items i step = or_three (masks_at items i).reads (own_masks step).reads (masks_if items (next_of step i)).reads (masks_if items (target_of step)).reads

pub joined_writes : (items : List Masks) (i : ℕ) (step : Instruction ℕ ℕ) → (masks_at items i).writes ≤ (joined items i step).writes
joined_writes items i step = or_three (masks_at items i).writes (own_masks step).writes (masks_if items (next_of step i)).writes (masks_if items (target_of step)).writes

less_room : (a b c d : ℕ) → a ≤ c → b ≤ d → c < 2 ^ 16 → d < 2 ^ 16 → (c ≡ a → d ≡ b → ⊥) → 131072 - (c + d) < 131072 - (a + b)
less_room a b c d le me lt mt other = by_reads (cases_lt a c)
  where
    by_writes : c ≤ a → (b < d) ⊎ (d ≤ b) → 131072 - (c + d) < 131072 - (a + b)
    by_writes ge (inl more) = omega arith
    by_writes ge (inr not) = absurd (other (omega arith) (omega arith))

    by_reads : (a < c) ⊎ (c ≤ a) → 131072 - (c + d) < 131072 - (a + b)
    by_reads (inl more) = omega arith
    by_reads (inr ge) = by_writes ge (cases_lt b d)

pub grows : (items : List Masks) (i : ℕ) (m : Masks) → i < length items → (masks_at items i).reads ≤ m.reads → (masks_at items i).writes ≤ m.writes → m.reads < 2 ^ 16 → m.writes < 2 ^ 16
    → (m.reads ≡ (masks_at items i).reads → m.writes ≡ (masks_at items i).writes → ⊥) → room (slice_set items i m) < room items
grows items i m inside le me lt mt other =
    let old = masks_at items i in
    let less = less_room old.reads old.writes m.reads m.writes le me lt mt other in
    let sums = sum_by-set (λ (x : Masks). 131072 - (x.reads + x.writes)) items i m no_masks inside in
    omega (arith, less, sums)

-- an element that is there, whatever the default
one_default : {A : Type 0} (xs : List A) (i : ℕ) (d e : A) → i < length xs → get_or xs i d ≡ get_or xs i e
one_default xs i d e lt = same_Some _ _ (sym (slice_get-get_or xs i d lt) ∙ slice_get-get_or xs i e lt)

-- where a test says that two items differ, they do
pub differ : (items : List Masks) (i : ℕ) (d m : Masks) (r : Bool) → i < length items → r ≡ not ((m.reads == (get_or items i d).reads) && (m.writes == (get_or items i d).writes)) → r ≡ true
    → m.reads ≡ (masks_at items i).reads → m.writes ≡ (masks_at items i).writes → ⊥
differ items i d m r lt is told reads writes =
    let same = one_default items i d no_masks lt in
    let first = eq-eqb m.reads (get_or items i d).reads (reads ∙ ap (λ (x : Masks). x.reads) (sym same)) in
    let second = eq-eqb m.writes (get_or items i d).writes (writes ∙ ap (λ (x : Masks). x.writes) (sym same)) in
    let both = and_from _ _ first second in
    let no : r ≡ false = is ∙ ap not both in
    let clash : true ≡ false = sym told ∙ no in
    cc

-- ---- each round keeps the items small, and below every closed list

arrays_of : {A : Type 0} (p : A → Bool) (xs : List A) (i : ℕ) (d : A) → i < length xs → list_all p xs ≡ true → p (get_or xs i d) ≡ true
arrays_of p xs i d lt all = list_all_at p xs all i (get_or xs i d) (slice_get-get_or xs i d lt)
  where
    list_all_at : {A : Type 0} (p : A → Bool) (xs : List A) → list_all p xs ≡ true → (i : ℕ) (x : A) → slice_get xs i ≡ Some x → p x ≡ true
    list_all_at p [] all i x at = absurd (let lt = slice_get_within [] i x at in omega (arith, lt))
    list_all_at p (y ∷ ys) all zero x at = ap p (sym (same_Some y x at)) ∙ (and_parts (p y) (list_all p ys) all).0
    list_all_at p (y ∷ ys) all (suc i) x at = list_all_at p ys (and_parts (p y) (list_all p ys) all).1 i x at

abbrev pub IsWithin : ℕ → Masks → Type 0
IsWithin arrays m = (m.reads < 2 ^ arrays) × (m.writes < 2 ^ arrays)

power : (arrays : ℕ) → 0 < 2 ^ arrays
power arrays = pow_pos arrays

below_power : (k n : ℕ) → nat_lt k n ≡ true → 2 ^ k < 2 ^ n
below_power k n lt = pow-lt (ltb-true k n lt)

own_within : (arrays : ℕ) (step : Instruction ℕ ℕ) → has_array_below arrays step ≡ true → IsWithin arrays (own_masks step)
own_within arrays (the.Load to from) h = (below_power from.array arrays h, power arrays)
own_within arrays (the.Store to from) h = (power arrays, below_power to.array arrays h)
own_within arrays (the.Locked operation cell register) h = (below_power cell.array arrays h, below_power cell.array arrays h)
own_within arrays _ h = (power arrays, power arrays)

if_within : (arrays : ℕ) (items : List Masks) (o : Option ℕ) → AreWithin arrays items → IsWithin arrays (masks_if items o)
if_within arrays items None w = (power arrays, power arrays)
if_within arrays items (Some j) w = w j

union_within : (arrays : ℕ) (a b : Masks) → IsWithin arrays a → IsWithin arrays b → IsWithin arrays (union a b)
union_within arrays a b (p, q) (r, x) = (or_lt arrays a.reads b.reads p r, or_lt arrays a.writes b.writes q x)

joined_within : (arrays : ℕ) (items : List Masks) (i : ℕ) (step : Instruction ℕ ℕ) → has_array_below arrays step ≡ true → AreWithin arrays items → IsWithin arrays (joined items i step)
joined_within arrays items i step h w =
    union_within arrays _ _ (union_within arrays _ _ (union_within arrays (masks_at items i) (own_masks step) (w i) (own_within arrays step h)) (if_within arrays items (next_of step i) w))
    (if_within arrays items (target_of step) w)

set_within : (arrays : ℕ) (items : List Masks) (i : ℕ) (m : Masks) → i < length items → AreWithin arrays items → IsWithin arrays m → AreWithin arrays (slice_set items i m)
set_within arrays items i m inside w small k = elim (cases_eq k i) [
  | inl same ↦ subst (IsWithin arrays) (sym (ap (masks_at (slice_set items i m)) same ∙ get_or-set_same items i m no_masks inside)) small
  | inr other ↦ subst (IsWithin arrays) (sym (get_or-set_other items i k m no_masks other)) (w k)
]

-- each of the two masks' arrays is in the other's
pub record IsUnder (m other : Masks) : Type 0 where
  pub reads : IsIn m.reads other.reads
  pub writes : IsIn m.writes other.writes

union_under : (a b m : Masks) → IsUnder a m → IsUnder b m → IsUnder (union a b) m
union_under a b m f g = record {
  reads = both_in a.reads b.reads m.reads f.reads g.reads;
  writes = both_in a.writes b.writes m.writes f.writes g.writes;
}

none_under : (m : Masks) → IsUnder no_masks m
none_under m = record { reads = none_in m.reads; writes = none_in m.writes }

holds_under : (m other : Masks) → holds m other ≡ true → IsUnder other m
holds_under m other h = record { reads = in_covers m.reads other.reads (holds_reads m other h); writes = in_covers m.writes other.writes (holds_writes m other h) }

under_holds : (m other : Masks) → IsUnder other m → holds m other ≡ true
under_holds m other f = and_from _ _ (covers_in m.reads other.reads f.reads) (covers_in m.writes other.writes f.writes)

under_trans : (a b m : Masks) → IsUnder a b → IsUnder b m → IsUnder a m
under_trans a b m f g = record { reads = λ k h. g.reads k (f.reads k h); writes = λ k h. g.writes k (f.writes k h) }

above_at : (others items : List Masks) → IsAbove others items → (i : ℕ) → IsUnder (masks_at items i) (masks_at others i)
above_at others items a i = record { reads = a.reads i; writes = a.writes i }

goes_next : (step : Instruction ℕ ℕ) (i j : ℕ) → next_of step i ≡ Some j → goes_on step i j ≡ true
unfolding goes_on
goes_next step i j e = or_left (is_at (next_of step i) j) (is_at (target_of step) j) (ap (λ o. is_at o j) e ∙ eq-eqb j j refl)

goes_target : (step : Instruction ℕ ℕ) (i j : ℕ) → target_of step ≡ Some j → goes_on step i j ≡ true
unfolding goes_on
goes_target step i j e = or_right (is_at (next_of step i) j) (is_at (target_of step) j) (ap (λ o. is_at o j) e ∙ eq-eqb j j refl)

goes_either : (step : Instruction ℕ ℕ) (i j : ℕ) → goes_on step i j ≡ true → (next_of step i ≡ Some j) ⊎ (target_of step ≡ Some j)
unfolding goes_on
goes_either step i j h = go (next_of step i) (target_of step) h
  where
    go : (o p : Option ℕ) → (is_at o j || is_at p j) ≡ true → (o ≡ Some j) ⊎ (p ≡ Some j)
    go None None h = absurd (let clash : false ≡ true = h in cc)
    go None (Some t) h = inr (ap Some (eqb-true t j h))
    go (Some n) p h = by (n == j) refl h
      where
        by : (b : Bool) → (n == j) ≡ b → (b || is_at p j) ≡ true → (Some n ≡ Some j) ⊎ (p ≡ Some j)
        by true e h = inl (ap Some (eqb-true n j e))
        by false e h = inr (at p h)
          where
            at : (p : Option ℕ) → is_at p j ≡ true → p ≡ Some j
            at None h = absurd (let clash : false ≡ true = h in cc)
            at (Some t) h = ap Some (eqb-true t j h)

-- what a closed list has at a successor it has at the instruction
successor_under : (arrays : ℕ) (steps : List (Instruction ℕ ℕ)) (others items : List Masks) (i : ℕ) (step : Instruction ℕ ℕ) (o : Option ℕ) → IsItem arrays others i step (masks_at others i) → IsAbove others items
    → ((j : ℕ) → o ≡ Some j → goes_on step i j ≡ true) → length items ≡ length others → IsUnder (masks_if items o) (masks_at others i)
successor_under arrays steps others items i step None item a goes same = none_under (masks_at others i)
successor_under arrays steps others items i step (Some j) item a goes same = elim (cases_lt j (length others)) [
  | inl inside ↦ under_trans (masks_at items j) (masks_at others j) (masks_at others i) (above_at others items a j) (holds_under (masks_at others i) (masks_at others j) (item.successors j (goes j refl) inside))
  | inr past ↦ subst (λ m. IsUnder m (masks_at others i)) (sym (get_or_past items j no_masks (omega (arith, past, same)))) (none_under (masks_at others i))
]

joined_under : (arrays : ℕ) (steps : List (Instruction ℕ ℕ)) (others items : List Masks) (i : ℕ) (step : Instruction ℕ ℕ) → IsListClosed arrays steps others → IsAbove others items
    → length items ≡ length steps → slice_get steps i ≡ Some step → IsUnder (joined items i step) (masks_at others i)
joined_under arrays steps others items i step closed a same at =
    let inside : i < length others = (let lt = slice_get_within steps i step at in let l = closed.lengths in omega (arith, lt, l)) in
    let item = closed.each i step (masks_at others i) at (slice_get-get_or others i no_masks inside) in
    let sizes : length items ≡ length others = same ∙ sym closed.lengths in
    union_under _ _ (masks_at others i)
    (union_under _ _ (masks_at others i)
    (union_under (masks_at items i) (own_masks step) (masks_at others i) (above_at others items a i) (holds_under (masks_at others i) (own_masks step) item.own))
    (successor_under arrays steps others items i step (next_of step i) item a (goes_next step i) sizes))
    (successor_under arrays steps others items i step (target_of step) item a (goes_target step i) sizes)

set_above : (others items : List Masks) (i : ℕ) (m : Masks) → i < length items → IsAbove others items → IsUnder m (masks_at others i) → IsAbove others (slice_set items i m)
set_above others items i m inside a f = record { reads = λ k. (at k).reads; writes = λ k. (at k).writes }
  where
    at : (k : ℕ) → IsUnder (masks_at (slice_set items i m) k) (masks_at others k)
    at k = elim (cases_eq k i) [
      | inl same ↦ subst (λ x. IsUnder (masks_at (slice_set items i m) x) (masks_at others x)) (sym same) (subst (λ x. IsUnder x (masks_at others i)) (sym (get_or-set_same items i m no_masks inside)) f)
      | inr other ↦ subst (λ x. IsUnder x (masks_at others k)) (sym (get_or-set_other items i k m no_masks other)) (above_at others items a k)
    ]

-- ---- what a round keeps

pub growing_on : (arrays : ℕ) (steps : List (Instruction ℕ ℕ)) (items : List Masks) (i : ℕ) (d : Instruction ℕ ℕ) → are_arrays_below arrays steps ≡ true → i < length steps → IsGrowing arrays steps items
    → IsGrowing arrays steps (slice_set items i (joined items i (get_or steps i d)))
growing_on arrays steps items i d below lt g =
    let step = get_or steps i d in
    let inside : i < length items = (let same = g.size in omega (arith, lt, same)) in
    record {
      size = length-set items i (joined items i step) ∙ g.size;
      within = set_within arrays items i (joined items i step) inside g.within (joined_within arrays items i step (arrays_of (has_array_below arrays) steps i d lt below) g.within);
      least = λ others closed. set_above others items i (joined items i step) inside (g.least others closed)
          (joined_under arrays steps others items i step closed (g.least others closed) g.size (slice_get-get_or steps i d lt));
    }

pub first_growing : (arrays : ℕ) (steps : List (Instruction ℕ ℕ)) → IsGrowing arrays steps (replicate (length steps) no_masks)
first_growing arrays steps = record {
  size = length-replicate (length steps) no_masks;
  within = λ i. subst (IsWithin arrays) (sym (blank i)) (power arrays, power arrays);
  least = λ others closed. record {
    reads = λ i k h. absurd (zero_bit k (ap (λ (m : Masks). has_array m.reads k) (sym (blank i)) ∙ h));
    writes = λ i k h. absurd (zero_bit k (ap (λ (m : Masks). has_array m.writes k) (sym (blank i)) ∙ h));
  };
}
  where
    blank : (i : ℕ) → masks_at (replicate (length steps) no_masks) i ≡ no_masks
    blank i = replicated (length steps) i
      where
        replicated : (n i : ℕ) → masks_at (replicate n no_masks) i ≡ no_masks
        replicated zero i = refl
        replicated (suc n) zero = refl
        replicated (suc n) (suc i) = replicated n i

    zero_bit : (k : ℕ) → has_array 0 k ≡ true → ⊥
    zero_bit k h = let z : has_array 0 k ≡ false = ap (λ n. n == 1) (bit_at-zero k) in let clash : true ≡ false = sym h ∙ z in cc

-- ---- a list that no round makes grow is closed

pub joined_is_closed : (arrays : ℕ) (steps : List (Instruction ℕ ℕ)) (items : List Masks) → IsGrowing arrays steps items → AreJoined steps items (length steps) → IsListClosed arrays steps items
joined_is_closed arrays steps items g joins = record {
  lengths = g.size;
  each = λ i step item at is.
      let same : masks_at items i ≡ item = get_or_from_slice_get items i item no_masks is in
      subst (λ m. IsItem arrays items i step m) same (one i step at);
}
  where
    one : (i : ℕ) (step : Instruction ℕ ℕ) → slice_get steps i ≡ Some step → IsItem arrays items i step (masks_at items i)
    one i step at =
        let m = masks_at items i in
        let whole = joins i step (slice_get_within steps i step at) at in
        let into : (x : Masks) → IsUnder x (joined items i step) → holds m x ≡ true = λ x f. under_holds m x (subst (IsUnder x) whole f) in
        let first = union m (own_masks step) in
        let second = union first (masks_if items (next_of step i)) in
        record {
          reads = (g.within i).0;
          writes = (g.within i).1;
          own = into (own_masks step) (record {
            reads = λ k h. left_in second.reads (masks_if items (target_of step)).reads k (left_in first.reads (masks_if items (next_of step i)).reads k (right_in m.reads (own_masks step).reads k h));
            writes = λ k h. left_in second.writes (masks_if items (target_of step)).writes k (left_in first.writes (masks_if items (next_of step i)).writes k (right_in m.writes (own_masks step).writes k h));
          });
          successors = λ j goes lt. elim (goes_either step i j goes) [
            | inl e ↦ into (masks_at items j) (subst (λ (o : Option ℕ). IsUnder (masks_if items o) (joined items i step)) e (record {
              reads = λ k h. left_in second.reads (masks_if items (target_of step)).reads k (right_in first.reads (masks_if items (next_of step i)).reads k h);
              writes = λ k h. left_in second.writes (masks_if items (target_of step)).writes k (right_in first.writes (masks_if items (next_of step i)).writes k h);
            }))
            | inr e ↦ into (masks_at items j) (subst (λ (o : Option ℕ). IsUnder (masks_if items o) (joined items i step)) e (record {
              reads = right_in second.reads (masks_if items (target_of step)).reads;
              writes = right_in second.writes (masks_if items (target_of step)).writes;
            }))
          ];
        }

-- ---- the rounds, one instruction further

pub joined_on : (steps : List (Instruction ℕ ℕ)) (items : List Masks) (i : ℕ) (d : Instruction ℕ ℕ) → i < length steps → AreJoined steps items i → joined items i (get_or steps i d) ≡ masks_at items i → AreJoined steps items (i + 1)
joined_on steps items i d inside before own k step lt at = elim (cases_lt k i) [
  | inl less ↦ before k step less at
  | inr ge ↦
      let same : i ≡ k = omega (arith, lt, ge) in
      let is : get_or steps i d ≡ step = same_Some _ step (sym (slice_get-get_or steps i d inside) ∙ ap (slice_get steps) same ∙ at) in
      ap (λ n. joined items n step) (sym same) ∙ ap (joined items i) (sym is) ∙ own ∙ ap (masks_at items) same
]

-- an item that did not grow is as it was
pub not_grown : (items : List Masks) (i : ℕ) (m : Masks) → m ≡ masks_at items i → slice_set items i m ≡ items
not_grown items i m e = ap (slice_set items i) e ∙ set-get_or items i no_masks

-- the room falls, whether an item grew before or not
pub less_each : (b : Bool) (first mid last : ℕ) → last < mid → (b ≡ true → mid < first) → (b ≡ false → mid ≡ first) → last < first
less_each true first mid last lt f g = let h = f refl in omega (arith, lt, h)
less_each false first mid last lt f g = let h = g refl in omega (arith, lt, h)
