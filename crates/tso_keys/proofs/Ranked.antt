-- Ranks of kept values.
use Rattle.std.proofs.Common.{◌≡◌, ℕ, zero, suc, ◌+◌, ◌<◌, ◌≤◌, inl, inr, Bool, true, false, List, [], ◌∷◌, ◌++◌, length, map, Option, Some, refl, sym, ap, ◌∙◌, arith, get_or, slice_get, slice_set}
use Rattle.std.proofs.lemmas.Bool.{false≢true}
use Rattle.std.proofs.lemmas.Bool.Decides.{eqb_tells}
use Rattle.std.proofs.lemmas.List.MinMax.{ranks_by}
use Rattle.std.proofs.lemmas.List.Sorted.{Contains-permutation, IsPermutation-sym, sorted_far}
use Rattle.std.proofs.lemmas.List.{length_push}
use Rattle.std.proofs.lemmas.Option.{get_or_from_slice_get, same_Some, slice_get-get_or}
use Rattle.std.specs.Cmp.{IsTotalOrder, ranks}
use Rattle.std.specs.Cmp.Lexicographic.{options_total, slice_cmp}
use Rattle.std.specs.List.{Contains}
use Rattle.std.specs.List.Sorted.{IsPermutation, IsSortedBy}
use Rattle.std.specs.Option.{option_cmp}
use Rattle.std.specs.Ordering.{MatchOrdering, is_eq, is_lt, nat_cmp, ordering_reverse, ordering_then}
use Rattle.std.specs.declared.cmp.Ordering.{Ordering}
use Rattle.std.specs.declared.cmp.Ordering.TheVariants.{Less, Equal, Greater}
use Rattle.tso_parts.proofs.Marked.{found_or_not, item_at, new_item, old_item, within}
use Rattle.tso_list.specs.Same.{IsExact}
use Rattle.tso_parts.specs.Numbers.{IsNumbered}
use Rattle.tso_keys.specs.Numbers.{AreNumbersOf}
use Rattle.tso_keys.specs.Orders.{AreRanks, HasPlace, IsInOrder, numbers_below, rank_at, rank_of}

is_less : (o : Ordering) → is_lt o ≡ true → o ≡ Less
is_less Less e = refl
is_less Equal e = absurd (false≢true e)
is_less Greater e = absurd (false≢true e)

by_order : (a b : ℕ) {C : Type 0} → (a < b → C) → (b ≤ a → C) → C
by_order zero zero less most = most (omega arith)
by_order zero (suc b) less most = less (omega arith)
by_order (suc a) zero less most = most (omega arith)
by_order (suc a) (suc b) less most = by_order a b (λ h. less (omega (arith, h))) (λ h. most (omega (arith, h)))

-- no number is that of a value above one that stands behind it
not_above : {X : Type 0} (R : X → X → Ordering) → IsTotalOrder R → (pool : List X) (ns : List ℕ) (i j n m : ℕ) → IsSortedBy (λ a b. is_lt (option_cmp R (slice_get pool a) (slice_get pool b))) ns
    → i ≤ j → slice_get ns i ≡ Some n → slice_get ns j ≡ Some m → is_lt (option_cmp R (slice_get pool m) (slice_get pool n)) ≡ false
not_above R o pool ns i j n m up le a b =
    let far = sorted_far (λ a b. is_lt (option_cmp R (slice_get pool a) (slice_get pool b))) (ranks_by (options_total o) (slice_get pool)) ns up i j 0 le (within ns j m b) in
    ap (λ (k : ℕ). is_lt (option_cmp R (slice_get pool m) (slice_get pool k))) (sym (get_or_from_slice_get ns i n 0 a))
    ∙ ap (λ (k : ℕ). is_lt (option_cmp R (slice_get pool k) (slice_get pool (get_or ns i 0)))) (sym (get_or_from_slice_get ns j m 0 b)) ∙ far

pub length_below : (n : ℕ) → length (numbers_below n) ≡ n
length_below zero = refl
length_below (suc n) = let h = length_below n in length_push (numbers_below n) n ∙ omega (arith, h)

own_place : (n k : ℕ) → k < n → slice_get (numbers_below n) k ≡ Some k
own_place zero k less = absurd (omega (arith, less))
own_place (suc n) k less = found_or_not k n (omega (arith, less))
    (λ e. ap (slice_get (numbers_below n ++ n ∷ [])) (e ∙ sym (length_below n)) ∙ new_item (numbers_below n) n ∙ ap Some (sym e))
    (λ l. old_item (numbers_below n) n k k (own_place n k l))

contains_below : (n k : ℕ) → k < n → Contains (numbers_below n) k
contains_below n k less = let h = length_below n in (k, omega (arith, h, less), get_or_from_slice_get (numbers_below n) k k k (own_place n k less))

-- a number that stands among all below one is below it
pub order_below : (count : ℕ) (ns : List ℕ) (i n : ℕ) → IsPermutation (numbers_below count) ns → slice_get ns i ≡ Some n → n < count
order_below count ns i n all at =
    let (j, less, same) = Contains-permutation ns (numbers_below count) n (IsPermutation-sym (numbers_below count) ns all) (i, within ns i n at, get_or_from_slice_get ns i n n at) in
    let long = length_below count in
    let own : get_or (numbers_below count) j n ≡ j = get_or_from_slice_get (numbers_below count) j j n (own_place count j (omega (arith, less, long))) in
    let is : n ≡ j = sym same ∙ own in
    omega (arith, is, less, long)

set_here : (xs : List ℕ) (m a : ℕ) → m < length xs → slice_get (slice_set xs m a) m ≡ Some a
set_here [] m a less = absurd (omega (arith, less))
set_here (x ∷ xs) zero a less = refl
set_here (x ∷ xs) (suc m) a less = set_here xs m a (omega (arith, less))

set_elsewhere : (xs : List ℕ) (m n a : ℕ) → (n ≡ m → ⊥) → slice_get (slice_set xs m a) n ≡ slice_get xs n
set_elsewhere [] m n a other = refl
set_elsewhere (x ∷ xs) zero zero a other = absurd (other refl)
set_elsewhere (x ∷ xs) zero (suc n) a other = refl
set_elsewhere (x ∷ xs) (suc m) zero a other = refl
set_elsewhere (x ∷ xs) (suc m) (suc n) a other = set_elsewhere xs m n a (λ e. other (ap suc e))

-- one more place
pub places_more : (order old new : List ℕ) (k m : ℕ) → slice_get order k ≡ Some m → m < length old → new ≡ slice_set old m k → ((i n : ℕ) → i < k → slice_get order i ≡ Some n → HasPlace order old n)
    → (i n : ℕ) → i < k + 1 → slice_get order i ≡ Some n → HasPlace order new n
places_more order old new k m here less is before i n low at = elim (eqb_tells n m) [
  | inl same ↦ record {
    place = k;
    rank_is = ap (slice_get new) same.1 ∙ ap (λ (xs : List ℕ). slice_get xs m) is ∙ set_here old m k less;
    here = here ∙ ap Some (sym same.1);
  }
  | inr other ↦
      found_or_not i k (omega (arith, low))
      (λ e. absurd (other.1 (same_Some n m (sym at ∙ ap (slice_get order) e ∙ here))))
      (λ l.
      let h = before i n l at in
      record { place = h.place; rank_is = ap (λ (xs : List ℕ). slice_get xs n) is ∙ set_elsewhere old m n k other.1 ∙ h.rank_is; here = h.here })
]

cmp_less : (r s : ℕ) → r < s → nat_cmp r s ≡ Less
cmp_less r s less = by_case (nat_cmp r s) (ranks r s)
  where
    by_case : (o : Ordering) → MatchOrdering o (r < s) (r ≡ s) (s < r) → o ≡ Less
    by_case Less h = refl
    by_case Equal h = absurd (omega (arith, h, less))
    by_case Greater h = absurd (omega (arith, h, less))

cmp_greater : (r s : ℕ) → s < r → nat_cmp r s ≡ Greater
cmp_greater r s more = by_case (nat_cmp r s) (ranks r s)
  where
    by_case : (o : Ordering) → MatchOrdering o (r < s) (r ≡ s) (s < r) → o ≡ Greater
    by_case Less h = absurd (omega (arith, h, more))
    by_case Equal h = absurd (omega (arith, h, more))
    by_case Greater h = refl

cmp_equal : (r s : ℕ) → r ≡ s → nat_cmp r s ≡ Equal
cmp_equal r s same = by_case (nat_cmp r s) (ranks r s)
  where
    by_case : (o : Ordering) → MatchOrdering o (r < s) (r ≡ s) (s < r) → o ≡ Equal
    by_case Less h = absurd (omega (arith, h, same))
    by_case Equal h = refl
    by_case Greater h = absurd (omega (arith, h, same))

-- places in an order of all numbers compare as the values
pub ranked : {X : Type 0} (R : X → X → Ordering) → IsTotalOrder R → ((x y : X) → R x y ≡ Equal → x ≡ y) → (pool : List X) (ns ranks : List ℕ) → IsNumbered pool → IsInOrder R pool ns
    → length ranks ≡ length pool → ((i n : ℕ) → slice_get ns i ≡ Some n → HasPlace ns ranks n) → AreRanks R pool ranks
ranked {X} R o exact pool ns ranks one order long each = record { all = long; alike = alike }
  where
    there : (n r : ℕ) → slice_get ranks n ≡ Some r → slice_get ns r ≡ Some n
    there n r e =
        let w = within ranks n r e in
        let (i, less, same) = Contains-permutation (numbers_below (length pool)) ns n order.all (contains_below (length pool) n (omega (arith, w, long))) in
        let p = each i n (slice_get-get_or ns i n less ∙ ap Some same) in
        ap (slice_get ns) (same_Some r p.place (sym e ∙ p.rank_is)) ∙ p.here

    alike : (n m r s : ℕ) → slice_get ranks n ≡ Some r → slice_get ranks m ≡ Some s → nat_cmp r s ≡ option_cmp R (slice_get pool n) (slice_get pool m)
    alike n m r s e f =
        let w = within ranks n r e in
        let v = within ranks m s f in
        item_at pool n (omega (arith, w, long)) (λ x a. item_at pool m (omega (arith, v, long)) (λ y b.
        by_case n m r s e f x y a b (option_cmp R (slice_get pool n) (slice_get pool m)) refl))
      where
        by_case : (n m r s : ℕ) → slice_get ranks n ≡ Some r → slice_get ranks m ≡ Some s → (x y : X) → slice_get pool n ≡ Some x → slice_get pool m ≡ Some y → (c : Ordering) → option_cmp R (slice_get pool n) (slice_get pool m) ≡ c → nat_cmp r s ≡ option_cmp R (slice_get pool n) (slice_get pool m)
        by_case n m r s e f x y a b Less c =
            by_order r s (λ h. cmp_less r s h ∙ sym c)
            (λ g. absurd (false≢true (sym (not_above R o pool ns s r m n order.rising g (there m s f) (there n r e)) ∙ ap is_lt c)))
        by_case n m r s e f x y a b Greater c =
            let back = (options_total o).antisymm (slice_get pool m) (slice_get pool n) ∙ ap ordering_reverse c in
            by_order s r (λ h. cmp_greater r s h ∙ sym c)
            (λ g. absurd (false≢true (sym (not_above R o pool ns r s n m order.rising g (there n r e) (there m s f)) ∙ ap is_lt back)))
        by_case n m r s e f x y a b Equal c =
            let values : R x y ≡ Equal = ap (λ (k : Option X). option_cmp R k (Some y)) (sym a) ∙ ap (λ (k : Option X). option_cmp R (slice_get pool n) k) (sym b) ∙ c in
            let same : n ≡ m = one n m x a (b ∙ ap Some (sym (exact x y values))) in
            let both : Some r ≡ Some s = sym e ∙ ap (slice_get ranks) same ∙ f in
            cmp_equal r s (let h : r ≡ s = cc in h) ∙ sym c

pub equal_is_same : {X : Type 0} (eq : X → X → Bool) (R : X → X → Ordering) → IsExact eq → ((x y : X) → eq x y ≡ is_eq (R x y)) → (x y : X) → R x y ≡ Equal → x ≡ y
equal_is_same eq R exact ties x y e = (exact x y).0 (ties x y ∙ ap is_eq e)

-- two values as their ranks
pub by_ranks : {X : Type 0} (R : X → X → Ordering) (pool : List X) (ranks : List ℕ) → AreRanks R pool ranks → (n m : ℕ) (x y : X) → slice_get pool n ≡ Some x → slice_get pool m ≡ Some y → nat_cmp (rank_at ranks n) (rank_at ranks m) ≡ R x y
by_ranks {X} R pool ranks is n m x y a b =
    let w = within pool n x a in
    let v = within pool m y b in
    item_at ranks n (omega (arith, w, is.all)) (λ r e. item_at ranks m (omega (arith, v, is.all)) (λ s f.
    let first : rank_at ranks n ≡ r = read_at ranks n r e in
    let second : rank_at ranks m ≡ s = read_at ranks m s f in
    ap (λ (k : ℕ). nat_cmp k (rank_at ranks m)) first ∙ ap (nat_cmp r) second ∙ is.alike n m r s e f ∙ ap (λ (k : Option X). option_cmp R k (slice_get pool m)) a ∙ ap (λ (k : Option X). option_cmp R (Some x) k) b))
  where
    read_at : (xs : List ℕ) (k q : ℕ) → slice_get xs k ≡ Some q → rank_at xs k ≡ q
    read_at xs k q e = get_or_from_slice_get xs k q 0 e

itself : (r : ℕ) → nat_cmp r r ≡ Equal
itself r = cmp_equal r r refl

-- two rows of as many numbers as those of their ranks
pub rows_by_ranks : {X : Type 0} (R : X → X → Ordering) (pool : List X) (ranks : List ℕ) → AreRanks R pool ranks → (ns ms : List ℕ) (xs ys : List X) → AreNumbersOf pool ns xs → AreNumbersOf pool ms ys
    → length ns ≡ length ms → length xs ≡ length ys → slice_cmp nat_cmp (map (rank_at ranks) ns) (map (rank_at ranks) ms) ≡ slice_cmp R xs ys
rows_by_ranks R pool ranks is [] [] [] [] a b wide e = refl
rows_by_ranks R pool ranks is [] [] (x ∷ xs) ys a b wide e = absurd a
rows_by_ranks R pool ranks is [] [] [] (y ∷ ys) a b wide e = absurd b
rows_by_ranks R pool ranks is [] (m ∷ ms) xs ys a b wide e = absurd (omega (arith, wide))
rows_by_ranks R pool ranks is (n ∷ ns) [] xs ys a b wide e = absurd (omega (arith, wide))
rows_by_ranks R pool ranks is (n ∷ ns) (m ∷ ms) [] (y ∷ ys) a b wide e = absurd (omega (arith, e))
rows_by_ranks R pool ranks is (n ∷ ns) (m ∷ ms) (x ∷ xs) [] a b wide e = absurd (omega (arith, e))
rows_by_ranks R pool ranks is (n ∷ ns) (m ∷ ms) [] [] a b wide e =
    let rest : Ordering = slice_cmp nat_cmp (map (rank_at ranks) ns) (map (rank_at ranks) ms) in
    let first : nat_cmp (rank_at ranks n) (rank_at ranks m) ≡ Equal = ap (λ (k : ℕ). nat_cmp (rank_at ranks k) (rank_at ranks m)) (a.0 ∙ sym b.0) ∙ itself (rank_at ranks m) in
    ap (λ (o : Ordering). ordering_then o rest) first ∙ rows_by_ranks R pool ranks is ns ms [] [] a.1 b.1 (omega (arith, wide)) refl
rows_by_ranks R pool ranks is (n ∷ ns) (m ∷ ms) (x ∷ xs) (y ∷ ys) a b wide e =
    let rest : Ordering = slice_cmp nat_cmp (map (rank_at ranks) ns) (map (rank_at ranks) ms) in
    ap (λ (o : Ordering). ordering_then o rest) (by_ranks R pool ranks is n m x y a.0 b.0)
    ∙ ap (ordering_then (R x y)) (rows_by_ranks R pool ranks is ns ms xs ys a.1 b.1 (omega (arith, wide)) (omega (arith, e)))

-- five numbers, one by one
pub five : (ranks ns : List ℕ) → length ns ≡ 5 → rank_of ranks ns 0 ∷ rank_of ranks ns 1 ∷ rank_of ranks ns 2 ∷ rank_of ranks ns 3 ∷ rank_of ranks ns 4 ∷ [] ≡ map (rank_at ranks) ns
five ranks [] e = absurd (omega (arith, e))
five ranks (a ∷ []) e = absurd (omega (arith, e))
five ranks (a ∷ b ∷ []) e = absurd (omega (arith, e))
five ranks (a ∷ b ∷ c ∷ []) e = absurd (omega (arith, e))
five ranks (a ∷ b ∷ c ∷ d ∷ []) e = absurd (omega (arith, e))
five ranks (a ∷ b ∷ c ∷ d ∷ f ∷ []) e = refl
five ranks (a ∷ b ∷ c ∷ d ∷ f ∷ g ∷ ns) e = absurd (omega (arith, e))
