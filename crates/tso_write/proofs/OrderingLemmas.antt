-- States in their order, group by group.
use Rattle.std.proofs.Common.{arith, ◌≡◌, ◌∙◌, ℕ, zero, suc, ◌+◌, ◌<◌, ◌≤◌, ◌++◌, ◌∷◌, ◌⊎◌, inl, inr, Bool, false, get_or, set, List, [], None, Option, Some, length, map, option_map, refl, slice_get, slice_index_or, take, drop, sym, ap, subst}
use Rattle.std.proofs.Math.Seq.{take-suc}
use Rattle.std.proofs.lemmas.Bool.Decides.{nat_tests}
use Rattle.std.proofs.lemmas.Grind.{flat_map-append}
use Rattle.std.proofs.lemmas.List.{append-nil, append_assoc, length-append, length-map, map-append, take-append-drop}
use Rattle.std.proofs.lemmas.List.Sorted.{Contains-permutation, IsPermutation-append, IsPermutation-append_right, IsPermutation-map, IsPermutation-sym, IsPermutation-to_front, IsPermutation-trans, IsPermutation-append_left}
use Rattle.std.proofs.lemmas.Option.{get_or_from_slice_get, none-some, same_Some, slice_get_within, slice_get-get_or}
use Rattle.std.specs.List.{flat_map}
use Rattle.std.specs.List.Sorted.{IsPermutation, IsSorted, IsSortedBy}
use Rattle.std.specs.Option.{option_cmp}
use Rattle.std.specs.Ordering.{is_lt, nat_cmp, ordering_then}
use Rattle.std.specs.Prelude.{Contains}
use Rattle.std.specs.declared.cmp.Ordering.{Ordering}
use Rattle.std.specs.declared.cmp.Ordering.TheVariants.{Less, Equal, Greater}
use Rattle.tso_cells.proofs.ListLemmas.{set_cases}
use Rattle.tso_write.proofs.CuttingLemmas.{from_drop, from_take, got_either}
use Rattle.tso_write.specs.Ordering.{AreAmong, AreGrouped, AreGroups, AreHalvesGrouped, AreNumbered, AreOrdered, ArePlaced, CanBeOrdered, IsAmong, IsOrderedBehind, IsRankedAt, row_lt}
use Rattle.tso_write.specs.contracts.ordering.PlacedOrd.TheImpl as placed_impl
use Rattle.tso_write.specs.declared.ordering.Placed.{Placed}
use Rattle.tso_state.specs.Order.{state_cmp}
use Rattle.tso_state.specs.declared.state.State.{State}
use Rattle.tso_keys.specs.Orders.{AreRowsOf, IsRising, numbers_below}
use Rattle.tso_keys.specs.contracts.rank_rows.RowOrd.TheImpl as row_impl
use Rattle.tso_keys.specs.declared.rank_rows.Row.{Row}

-- ---- items of lists

-- what holds of each item holds of each in another order
pub each_shuffled : {X : Type 0} (P : X → Type 0) (xs ys : List X) → IsPermutation xs ys → ((n : ℕ) (x : X) → slice_get xs n ≡ Some x → P x) → (n : ℕ) (x : X) → slice_get ys n ≡ Some x → P x
each_shuffled P xs ys shuffled all n x at =
    let there : Contains ys x = (n, slice_get_within ys n x at, get_or_from_slice_get ys n x x at) in
    let (k, lt, same) = Contains-permutation ys xs x (IsPermutation-sym xs ys shuffled) there in
    all k x (slice_get-get_or xs k x lt ∙ ap Some same)

-- and of each of two lists behind each other
pub each_joined : {X : Type 0} (P : X → Type 0) (xs ys : List X) → ((n : ℕ) (x : X) → slice_get xs n ≡ Some x → P x) → ((n : ℕ) (x : X) → slice_get ys n ≡ Some x → P x)
    → (n : ℕ) (x : X) → slice_get (xs ++ ys) n ≡ Some x → P x
each_joined P [] ys all more n x at = more n x at
each_joined P (z ∷ xs) ys all more zero x at = all zero x at
each_joined P (z ∷ xs) ys all more (suc n) x at = each_joined P xs ys (λ m y e. all (suc m) y e) more n x at

-- ---- sorted lists

sorted_tail : {X : Type 0} (lt : X → X → Bool) (x : X) (xs : List X) → IsSortedBy lt (x ∷ xs) → IsSortedBy lt xs
sorted_tail lt x xs a k d low less =
    let e : suc (k + 1) ≡ suc k + 1 = omega arith in
    ap (λ n. lt (slice_index_or (x ∷ xs) n d) (slice_index_or xs k d)) e ∙ a (suc k) d (omega arith) (omega (arith, less))

sorted_cons : {X : Type 0} (lt : X → X → Bool) (x : X) (ys : List X) → ((y : X) → slice_get ys 0 ≡ Some y → lt y x ≡ false) → IsSortedBy lt ys → IsSortedBy lt (x ∷ ys)
sorted_cons lt x ys first a zero d low less = first (slice_index_or ys 0 d) (slice_get-get_or ys 0 d (omega (arith, less)))
sorted_cons lt x ys first a (suc k) d low less =
    let e : suc k + 1 ≡ suc (k + 1) = omega arith in
    ap (λ n. lt (slice_index_or (x ∷ ys) n d) (slice_index_or ys k d)) e ∙ a k d (omega arith) (omega (arith, less))

first_behind : {X : Type 0} (lt : X → X → Bool) (x : X) (xs ys : List X) → IsSortedBy lt (x ∷ xs) → ((j : ℕ) (y : X) → slice_get ys j ≡ Some y → lt y x ≡ false) → (y : X) → slice_get (xs ++ ys) 0 ≡ Some y → lt y x ≡ false
first_behind lt x [] ys a c y at = c 0 y at
first_behind lt x (z ∷ xs) ys a c y at = ap (λ w. lt w x) (sym (same_Some z y at)) ∙ a 0 x (omega arith) (omega arith)

-- two sorted lists, of which no item of the second is less than one of the first
pub sorted_joined : {X : Type 0} (lt : X → X → Bool) (xs ys : List X) → IsSortedBy lt xs → IsSortedBy lt ys → ((i j : ℕ) (x y : X) → slice_get xs i ≡ Some x → slice_get ys j ≡ Some y → lt y x ≡ false)
    → IsSortedBy lt (xs ++ ys)
sorted_joined lt [] ys a b c = b
sorted_joined lt (x ∷ xs) ys a b c =
    sorted_cons lt x (xs ++ ys) (first_behind lt x xs ys a (λ j y at. c 0 j x y refl at)) (sorted_joined lt xs ys (sorted_tail lt x xs a) b (λ i j u v p q. c (suc i) j u v p q))

-- ---- rows

not_less : (o p : Ordering) → is_lt (ordering_then o p) ≡ false → is_lt o ≡ false
not_less Less p e = e
not_less Equal p e = refl
not_less Greater p e = refl

greater : (m n : ℕ) (o : Ordering) → n < m → is_lt (ordering_then (nat_cmp m n) o) ≡ false
greater m n o lt = ap (λ p. is_lt (ordering_then p o)) (let e : nat_cmp m n ≡ Greater = grind (arith, nat_tests) in e)

-- a memory of higher rank is in no lesser row
apart : (rows : List Row) (low mid high n m : ℕ) → IsAmong rows low mid n → IsAmong rows mid high m → row_lt rows m n ≡ false
apart rows low mid high n m a b =
    ap (λ (o : Option Row). is_lt (option_cmp row_impl.cmp-value.it o (slice_get rows n))) b.at
    ∙ ap (λ (o : Option Row). is_lt (option_cmp row_impl.cmp-value.it (Some b.row) o)) a.at
    ∙ greater b.row.memory a.row.memory _ (let h = a.most in let l = b.least in omega (arith, h, l))

wider : (rows : List Row) (low high least most n : ℕ) → least ≤ low → high ≤ most → IsAmong rows low high n → IsAmong rows least most n
wider rows low high least most n l h a = record { row = a.row; at = a.at; least = let e = a.least in omega (arith, e, l); most = let e = a.most in omega (arith, e, h) }

abbrev pub number_in : Placed → ℕ
number_in p = p.number

at_both : (ps : List Placed) (k d : ℕ) (p : Placed) → slice_get ps k ≡ Some p → slice_index_or (map number_in ps) k d ≡ p.number
at_both [] k d p e = absurd (none-some p e)
at_both (q ∷ ps) zero d p e = ap number_in (same_Some q p e)
at_both (q ∷ ps) (suc k) d p e = at_both ps k d p e

at_place : (ps : List Placed) (k : ℕ) (d p : Placed) → slice_get ps k ≡ Some p → slice_index_or ps k d ≡ p
at_place [] k d p e = absurd (none-some p e)
at_place (q ∷ ps) zero d p e = same_Some q p e
at_place (q ∷ ps) (suc k) d p e = at_place ps k d p e

-- numbers that are sorted behind their rows are sorted by these
placed_rise : (rows : List Row) (ps : List Placed) → ((i : ℕ) (p : Placed) → slice_get ps i ≡ Some p → slice_get rows p.number ≡ Some p.row) → IsSorted placed_impl.cmp-value.it ps → IsSortedBy (row_lt rows) (map number_in ps)
placed_rise rows ps rows_are sorted k d low less =
    let long = length-map ps number_in in
    let lt : k + 1 < length ps = omega (arith, less, long) in
    let p : Placed = get_or ps k (record { row = record { memory = 0; threads = []; history = 0 }; number = 0 }) in
    let q : Placed = get_or ps (k + 1) p in
    let here : slice_get ps k ≡ Some p = slice_get-get_or ps k _ (omega (arith, lt)) in
    let next : slice_get ps (k + 1) ≡ Some q = slice_get-get_or ps (k + 1) p lt in
    let up : is_lt (placed_impl.cmp-value.it q p) ≡ false =
    ap (λ (x : Placed). is_lt (placed_impl.cmp-value.it x p)) (sym (at_place ps (k + 1) p q next)) ∙ ap (λ (x : Placed). is_lt (placed_impl.cmp-value.it (slice_index_or ps (k + 1) p) x)) (sym (at_place ps k p p here)) ∙ sorted k p (omega arith) lt in
    let rows_up : is_lt (row_impl.cmp-value.it q.row p.row) ≡ false = not_less (row_impl.cmp-value.it q.row p.row) (nat_cmp q.number p.number) up in
    ap (λ (n : ℕ). row_lt rows n (slice_index_or (map number_in ps) k d)) (at_both ps (k + 1) d q next)
    ∙ ap (λ (n : ℕ). row_lt rows q.number n) (at_both ps k d p here)
    ∙ ap (λ (r : Option Row). is_lt (option_cmp row_impl.cmp-value.it r (slice_get rows p.number))) (rows_are (k + 1) q next)
    ∙ ap (λ (r : Option Row). is_lt (option_cmp row_impl.cmp-value.it (Some q.row) r)) (rows_are k p here)
    ∙ rows_up

-- one more number behind its row
pub row_more : (rows : List Row) (ns : List ℕ) (i d : ℕ) (row : Row) (old new : List Placed) → ArePlaced rows (take i ns) old → i < length ns → slice_get rows (get_or ns i d) ≡ Some row
    → new ≡ old ++ record { row = row; number = get_or ns i d } ∷ [] → ArePlaced rows (take (i + 1) ns) new
row_more rows ns i d row old new done lt at is =
    let p : Placed = record { row = row; number = get_or ns i d } in
    let next : take (i + 1) ns ≡ take i ns ++ get_or ns i d ∷ [] = ap (λ n. take n ns) (let e : i + 1 ≡ suc i = omega arith in e) ∙ take-suc ns i d lt in
    let all : (j : ℕ) (q : Placed) → slice_get (old ++ p ∷ []) j ≡ Some q → slice_get rows q.number ≡ Some q.row = each_joined (λ (q : Placed). slice_get rows q.number ≡ Some q.row) old (p ∷ []) done.rows_are (λ j q e. one j q e) in
    record {
      numbers = ap (map number_in) is ∙ map-append number_in old (p ∷ []) ∙ ap (λ (l : List ℕ). l ++ get_or ns i d ∷ []) done.numbers ∙ sym next;
      rows_are = λ j q e. all j q (ap (λ l. slice_get l j) (sym is) ∙ e);
    }
  where
    one : (j : ℕ) (q : Placed) → slice_get (record { row = row; number = get_or ns i d } ∷ []) j ≡ Some q → slice_get rows q.number ≡ Some q.row
    one zero q e = subst (λ (x : Placed). slice_get rows x.number ≡ Some x.row) (same_Some _ q e) at
    one (suc j) q e = absurd (none-some q e)

-- ---- groups in their order

-- a group that is placed, sorted and put behind numbers
pub group_ordered : (rows : List Row) (low high : ℕ) (group : List ℕ) (ps qs : List Placed) (old new : List ℕ) → ArePlaced rows group ps → IsPermutation ps qs → IsSorted placed_impl.cmp-value.it qs → new ≡ old ++ map number_in qs
    → AreAmong rows low high group → IsOrderedBehind rows low high group old new
group_ordered rows low high group ps qs old new all shuffled sorted is among =
    let same : IsPermutation group (map number_in qs) = subst (λ (ns : List ℕ). IsPermutation ns (map number_in qs)) all.numbers (IsPermutation-map number_in ps qs shuffled) in
    record {
      ordered = map number_in qs;
      are = record {
        all = same;
        among = each_shuffled (IsAmong rows low high) group (map number_in qs) same among;
        sorted = placed_rise rows qs (each_shuffled (λ (p : Placed). slice_get rows p.number ≡ Some p.row) ps qs shuffled all.rows_are) sorted;
      };
      is = is;
    }

pub both_ordered : (rows : List Row) (low mid high : ℕ) (gs hs xs ys : List ℕ) → low ≤ mid → mid ≤ high → AreOrdered rows low mid gs xs → AreOrdered rows mid high hs ys → AreOrdered rows low high (gs ++ hs) (xs ++ ys)
both_ordered rows low mid high gs hs xs ys l h a b = record {
  all = IsPermutation-append gs xs hs ys a.all b.all;
  among = each_joined (IsAmong rows low high) xs ys (λ i n at. wider rows low mid low high n (omega arith) h (a.among i n at)) (λ i n at. wider rows mid high low high n l (omega arith) (b.among i n at));
  sorted = sorted_joined (row_lt rows) xs ys a.sorted b.sorted (λ i j x y p q. apart rows low mid high x y (a.among i x p) (b.among j y q));
}

one_more_group : (groups : List (List ℕ)) (i : ℕ) (g : List ℕ) → slice_get groups i ≡ Some g → flat_map (λ g. g) (take (i + 1) groups) ≡ flat_map (λ g. g) (take i groups) ++ g
one_more_group groups i g at =
    let lt : i < length groups = slice_get_within groups i g at in
    ap (λ n. flat_map (λ g. g) (take n groups)) (let e : i + 1 ≡ suc i = omega arith in e)
    ∙ ap (flat_map (λ g. g)) (take-suc groups i g lt ∙ ap (λ (x : List ℕ). take i groups ++ x ∷ []) (get_or_from_slice_get groups i g g at))
    ∙ flat_map-append (λ g. g) (take i groups) (g ∷ [])
    ∙ ap (λ (l : List ℕ). flat_map (λ g. g) (take i groups) ++ l) (append-nil g)

-- one more group
pub more_ordered : (rows : List Row) (first i : ℕ) (groups : List (List ℕ)) (g old new : List ℕ) → slice_get groups i ≡ Some g → AreOrdered rows first (first + i) (flat_map (λ g. g) (take i groups)) old
    → IsOrderedBehind rows (first + i) (first + i + 1) g old new → AreOrdered rows first (first + (i + 1)) (flat_map (λ g. g) (take (i + 1) groups)) new
more_ordered rows first i groups g old new at done more =
    let both : AreOrdered rows first (first + i + 1) (flat_map (λ g. g) (take i groups) ++ g) (old ++ more.ordered) = both_ordered rows first (first + i) (first + i + 1) (flat_map (λ g. g) (take i groups)) g old more.ordered (omega arith) (omega arith) done more.are in
    let far : first + i + 1 ≡ first + (i + 1) = omega arith in
    subst (λ (n : ℕ). AreOrdered rows first n (flat_map (λ g. g) (take (i + 1) groups)) new) far
    (subst (λ (l : List ℕ). AreOrdered rows first (first + i + 1) l new) (sym (one_more_group groups i g at)) (subst (λ (l : List ℕ). AreOrdered rows first (first + i + 1) (flat_map (λ g. g) (take i groups) ++ g) l) (sym more.is) both))

-- each number of a group has a row
pub group_numbered : (rows : List Row) (first i : ℕ) (groups : List (List ℕ)) (g : List ℕ) → AreGroups rows first groups → slice_get groups i ≡ Some g → AreNumbered rows g
group_numbered rows first i groups g all at j n there = let a = all i g at j n there in slice_get_within rows n a.row a.at

-- halves of groups
pub halves_grouped : (rows : List Row) (first half : ℕ) (groups low high : List (List ℕ)) → low ≡ take half groups → high ≡ drop half groups → half < length groups → CanBeOrdered rows first groups
    → AreHalvesGrouped rows first groups rows first low rows (first + half) high × CanBeOrdered rows first low × CanBeOrdered rows (first + half) high
halves_grouped rows first half groups low high front back within ready =
    let all = ready.groups_are in
    let small = ready.small in
    let left : length low ≡ half = ap length front ∙ taken half groups (omega (arith, within)) in
    let both : low ++ high ≡ groups = ap (λ l. l ++ high) front ∙ ap (λ l. take half groups ++ l) back ∙ take-append-drop half groups in
    let long : length low + length high ≡ length groups = sym (length-append low high) ∙ ap length both in (
      record {
        left_rows = refl;
        left_first = refl;
        right_rows = refl;
        right_first = ap (λ n. first + n) (sym left);
        both = both;
      },
      record { groups_are = λ i g at. all i g (from_take half groups i g (ap (λ l. slice_get l i) (sym front) ∙ at)); small = omega (arith, long, small) },
      record {
        groups_are = λ i g at.
            let far : first + (half + i) ≡ first + half + i = omega arith in
            subst (λ (n : ℕ). AreAmong rows n (n + 1) g) far (all (half + i) g (from_drop half groups i g (ap (λ l. slice_get l i) (sym back) ∙ at)));
        small = omega (arith, long, left, small);
      },
    )
  where
    taken : (n : ℕ) (l : List (List ℕ)) → n ≤ length l → length (take n l) ≡ n
    taken zero l h = refl
    taken (suc n) [] h = absurd (omega (arith, h))
    taken (suc n) (x ∷ l) h = ap suc (taken n l (omega (arith, h)))

pub halves_ordered : (rows : List Row) (first : ℕ) (groups : List (List ℕ)) (lrows : List Row) (lfirst : ℕ) (left : List (List ℕ)) (rrows : List Row) (rfirst : ℕ) (right : List (List ℕ)) (xs ys zs : List ℕ)
    → AreHalvesGrouped rows first groups lrows lfirst left rrows rfirst right → AreOrdered lrows lfirst (lfirst + length left) (flat_map (λ g. g) left) xs → AreOrdered rrows rfirst (rfirst + length right) (flat_map (λ g. g) right) ys
    → zs ≡ xs ++ ys → AreOrdered rows first (first + length groups) (flat_map (λ g. g) groups) zs
halves_ordered rows first groups lrows lfirst left rrows rfirst right xs ys zs h a b is =
    let low : AreOrdered rows first (first + length left) (flat_map (λ g. g) left) xs =
    subst (λ (n : ℕ). AreOrdered rows n (n + length left) (flat_map (λ g. g) left) xs) h.left_first (subst (λ (r : List Row). AreOrdered r lfirst (lfirst + length left) (flat_map (λ g. g) left) xs) h.left_rows a) in
    let high : AreOrdered rows (first + length left) (first + length left + length right) (flat_map (λ g. g) right) ys =
    subst (λ (n : ℕ). AreOrdered rows n (n + length right) (flat_map (λ g. g) right) ys) h.right_first (subst (λ (r : List Row). AreOrdered r rfirst (rfirst + length right) (flat_map (λ g. g) right) ys) h.right_rows b) in
    let both = both_ordered rows first (first + length left) (first + length left + length right) (flat_map (λ g. g) left) (flat_map (λ g. g) right) xs ys (omega arith) (omega arith) low high in
    let many : first + length left + length right ≡ first + length groups = let l = length_of left right groups h.both in omega (arith, l) in
    let groups_are : flat_map (λ g. g) left ++ flat_map (λ g. g) right ≡ flat_map (λ g. g) groups = sym (flat_map-append (λ g. g) left right) ∙ ap (flat_map (λ g. g)) h.both in
    subst (λ (n : ℕ). AreOrdered rows first n (flat_map (λ g. g) groups) zs) many
    (subst (λ (l : List ℕ). AreOrdered rows first (first + length left + length right) l zs) groups_are
    (subst (λ (l : List ℕ). AreOrdered rows first (first + length left + length right) (flat_map (λ g. g) left ++ flat_map (λ g. g) right) l) (sym is) both))
  where
    length_of : (l r g : List (List ℕ)) → l ++ r ≡ g → length l + length r ≡ length g
    length_of l r g e = sym (length-append l r) ∙ ap length e

-- ---- grouping

-- an empty group more
pub room_grouped : (rows : List Row) (first : ℕ) (old new : List (List ℕ)) (g : List ℕ) → g ≡ [] → new ≡ old ++ g ∷ [] → AreGroups rows first old → AreGroups rows first new
room_grouped rows first old new g none is all i h at =
    got_either old (g ∷ []) i h (ap (λ l. slice_get l i) (sym is) ∙ at) (λ e. all i h e) (λ j past e. empty j h e)
  where
    empty : (j : ℕ) (h : List ℕ) → slice_get (g ∷ []) j ≡ Some h → AreAmong rows (first + i) (first + i + 1) h
    empty zero h e k n at = absurd (none-some n (ap (λ l. slice_get l k) (sym none ∙ same_Some g h e) ∙ at))
    empty (suc j) h e k n at = absurd (none-some h e)

pub room_long : (old new : List (List ℕ)) (g : List ℕ) (n : ℕ) → new ≡ old ++ g ∷ [] → n ≤ length old → n + 1 ≤ length new
room_long old new g n is le = let long = ap length is in let both = length-append old (g ∷ []) in omega (arith, long, both, le)

pub room_joined : (old new : List (List ℕ)) (g : List ℕ) → g ≡ [] → new ≡ old ++ g ∷ [] → flat_map (λ g. g) new ≡ flat_map (λ g. g) old
room_joined old new g none is =
    ap (flat_map (λ g. g)) (is ∙ ap (λ l. old ++ l ∷ []) none) ∙ flat_map-append (λ g. g) old ([] ∷ []) ∙ append-nil (flat_map (λ g. g) old)

-- a number more in one group
put_shuffles : (gs : List (List ℕ)) (m n : ℕ) (d : List ℕ) → m < length gs → IsPermutation (flat_map (λ g. g) gs ++ n ∷ []) (flat_map (λ g. g) (set gs m (get_or gs m d ++ n ∷ [])))
put_shuffles [] m n d lt = absurd (omega (arith, lt))
put_shuffles (g ∷ gs) zero n d lt =
    let F = flat_map (λ g. g) gs in
    subst (λ (l : List ℕ). IsPermutation l ((g ++ n ∷ []) ++ F)) (sym (append_assoc g F (n ∷ [])))
    (subst (IsPermutation (g ++ (F ++ n ∷ []))) (sym (append_assoc g (n ∷ []) F)) (IsPermutation-append_right g (F ++ n ∷ []) (n ∷ F) (IsPermutation-to_front F n)))
put_shuffles (g ∷ gs) (suc m) n d lt =
    let F = flat_map (λ g. g) gs in
    subst (λ (l : List ℕ). IsPermutation l (g ++ flat_map (λ g. g) (set gs m (get_or gs m d ++ n ∷ [])))) (sym (append_assoc g F (n ∷ [])))
    (IsPermutation-append_right g (F ++ n ∷ []) _ (put_shuffles gs m n d (omega (arith, lt))))

put_grouped : (rows : List Row) (row : Row) (n : ℕ) (old mid new : List (List ℕ)) (d : List ℕ) → row.memory < length mid → flat_map (λ g. g) mid ≡ flat_map (λ g. g) old → AreGroups rows 0 mid
    → new ≡ set mid row.memory (get_or mid row.memory d ++ n ∷ []) → slice_get rows n ≡ Some row → AreGrouped rows n old → AreGrouped rows (n + 1) new
put_grouped rows row n old mid new d within same groups is at grouped =
    let m = row.memory in
    let g = get_or mid m d in record {
      groups_are = λ i h there. by i h (set_cases mid m i (g ++ n ∷ []) h (ap (λ l. slice_get l i) (sym is) ∙ there));
      all =
          let more : IsPermutation (numbers_below n ++ n ∷ []) (flat_map (λ g. g) mid ++ n ∷ []) = subst (λ (l : List ℕ). IsPermutation (numbers_below n ++ n ∷ []) (l ++ n ∷ [])) (sym same) (IsPermutation-append_left (n ∷ []) (numbers_below n) (flat_map (λ g. g) old) grouped.all) in
          let put : IsPermutation (flat_map (λ g. g) mid ++ n ∷ []) (flat_map (λ g. g) new) = subst (λ (l : List (List ℕ)). IsPermutation (flat_map (λ g. g) mid ++ n ∷ []) (flat_map (λ g. g) l)) (sym is) (put_shuffles mid m n d within) in
          let count : suc n ≡ n + 1 = omega arith in
          subst (λ (k : ℕ). IsPermutation (numbers_below k) (flat_map (λ g. g) new)) count (IsPermutation-trans (numbers_below n ++ n ∷ []) (flat_map (λ g. g) mid ++ n ∷ []) (flat_map (λ g. g) new) more put);
    }
  where
    one : (j k : ℕ) → slice_get (n ∷ []) j ≡ Some k → IsAmong rows (0 + row.memory) (0 + row.memory + 1) k
    one zero k e = subst (IsAmong rows (0 + row.memory) (0 + row.memory + 1)) (same_Some n k e) (record { row = row; at = at; least = omega arith; most = omega arith })
    one (suc j) k e = absurd (none-some k e)

    by : (i : ℕ) (h : List ℕ) → ((i ≡ row.memory) × (h ≡ get_or mid row.memory d ++ n ∷ []) × (row.memory < length mid)) ⊎ ((i ≡ row.memory → ⊥) × (slice_get mid i ≡ Some h)) → AreAmong rows (0 + i) (0 + i + 1) h
    by i h (inl e) =
        let m = row.memory in
        let g = get_or mid m d in
        let these : AreAmong rows (0 + m) (0 + m + 1) (g ++ n ∷ []) = each_joined (IsAmong rows (0 + m) (0 + m + 1)) g (n ∷ []) (groups m g (slice_get-get_or mid m d within)) one in
        subst (λ (k : ℕ). AreAmong rows (0 + k) (0 + k + 1) h) (sym e.0) (subst (AreAmong rows (0 + m) (0 + m + 1)) (sym e.1) these)
    by i h (inr e) = groups i h e.1

-- the row of this number is told by its rank
pub put_ranked : (rows : List Row) (rank n : ℕ) (old mid new : List (List ℕ)) (d : List ℕ) → rank < length mid → flat_map (λ g. g) mid ≡ flat_map (λ g. g) old → AreGroups rows 0 mid
    → new ≡ set mid rank (get_or mid rank d ++ n ∷ []) → IsRankedAt rows n rank → AreGrouped rows n old → AreGrouped rows (n + 1) new
put_ranked rows rank n old mid new d within same groups is at grouped = by (slice_get rows n) refl at
  where
    by : (o : Option Row) → slice_get rows n ≡ o → option_map (λ (r : Row). r.memory) o ≡ Some rank → AreGrouped rows (n + 1) new
    by None here e = absurd (none-some rank e)
    by (Some row) here e =
        let ranked : row.memory ≡ rank = same_Some row.memory rank e in
        put_grouped rows row n old mid new d (subst (λ (m : ℕ). m < length mid) (sym ranked) within) same groups (subst (λ (m : ℕ). new ≡ set mid m (get_or mid m d ++ n ∷ [])) (sym ranked) is) here grouped

-- ---- all states

-- all states in the order of their rows are in their order
pub rising_ordered : (states : List State) (rows : List Row) (groups slice : List (List ℕ)) (high : ℕ) (ns : List ℕ) → AreRowsOf states rows → AreGrouped rows (length rows) groups → slice ≡ groups
    → AreOrdered rows 0 high (flat_map (λ g. g) slice) ns → IsRising states ns
rising_ordered states rows groups slice high ns are grouped is o =
    let same : row_lt rows ≡ (λ (n m : ℕ). is_lt (option_cmp state_cmp (slice_get states n) (slice_get states m))) = λ i n m. is_lt (are.alike n m i) in
    let shuffled : IsPermutation (flat_map (λ g. g) groups) ns = subst (λ (gs : List (List ℕ)). IsPermutation (flat_map (λ g. g) gs) ns) is o.all in
    record {
      all = subst (λ (k : ℕ). IsPermutation (numbers_below k) ns) are.count (IsPermutation-trans (numbers_below (length rows)) (flat_map (λ g. g) groups) ns grouped.all shuffled);
      rising = subst (λ (lt : ℕ → ℕ → Bool). IsSortedBy lt ns) same o.sorted;
    }
