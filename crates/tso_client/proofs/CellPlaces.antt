-- Cells of arrays, their places, and what memory holds there.
use Rattle.std.proofs.Common.{◌≡◌, ◌∙◌, ℕ, zero, suc, ◌+◌, ◌-◌, ◌<◌, ◌≤◌, inl, inr, Bool, true, false, nat_lt, List, [], ◌∷◌, ◌++◌, length, take, Option, Some, None, slice_get, ℤ, pos, negsuc, refl, sym, ap, subst, arith, if◌then◌else◌}
use Rattle.std.specs.List.{sum_by}
use Rattle.std.proofs.Math.Decide.{ℕ_discrete}
use Rattle.std.proofs.lemmas.Bool.{cases_lt, lt-ltb, ltb-true}
use Rattle.std.proofs.lemmas.List.Concat.{length-flat_map}
use Rattle.std.proofs.lemmas.List.Sums.{sum_by-cons}
use Rattle.std.proofs.lemmas.Option.{same_Some}
use Rattle.tso_prog.specs.declared.client.Array.{Array}
use Rattle.tso_prog.specs.declared.client.Client.{Client}
use Rattle.tso_machine.specs.Places.{first_memory, first_place, place_in}
use Rattle.tso_client.specs.Cells.{CellsHavePlaces, MemoryHoldsArrays, MemoryIsCells, PlacesAreDistinct, PlacesAreOfCells}

-- ---- one cell

-- what a place tells of its cell
record Placed (arrays : List Array) (n : ℕ) (z : ℤ) (p : ℕ) : Type 0 where
  array : Array
  index : ℕ
  there : slice_get arrays n ≡ Some array
  is : z ≡ pos index
  inside : index < length array.words
  at : p ≡ first_place arrays n + index

has_place : (o : Option Array) (first k : ℕ) (a : Array) → o ≡ Some a → k < length a.words → place_in o first (pos k) ≡ Some (first + k)
has_place None first k a there lt = absurd cc
has_place (Some b) first k a there lt =
    let same : b ≡ a = cc in
    let lt' : k < length b.words = subst (λ (x : Array). k < length x.words) (sym same) lt in
    rw (lt-ltb k (length b.words) lt') refl

placed : (arrays : List Array) (n : ℕ) (z : ℤ) (p : ℕ) (o : Option Array) → slice_get arrays n ≡ o → place_in o (first_place arrays n) z ≡ Some p → Placed arrays n z p
placed arrays n z p None there e = absurd cc
placed arrays n (negsuc k) p (Some a) there e = absurd cc
placed arrays n (pos k) p (Some a) there e = chosen (nat_lt k (length a.words)) refl e
  where
    chosen : (b : Bool) → nat_lt k (length a.words) ≡ b → (if b then Some (first_place arrays n + k) else None) ≡ Some p → Placed arrays n (pos k) p
    chosen true lt e' =
        let same : first_place arrays n + k ≡ p = cc in
        record { array = a; index = k; there = there; is = refl; inside = ltb-true k (length a.words) lt; at = sym same }
    chosen false lt e' = absurd cc

pub cells_have_places : (c : Client) → CellsHavePlaces c
cells_have_places c n k cell = (first_place c.arrays n + k, has_place (slice_get c.arrays n) (first_place c.arrays n) k cell.array cell.there cell.inside)

pub places_are_of_cells : (c : Client) → PlacesAreOfCells c
places_are_of_cells c n z p e =
    let h = placed c.arrays n z p (slice_get c.arrays n) refl e in
    record { index = h.index; is = h.is; cell = record { array = h.array; there = h.there; inside = h.inside } }

-- ---- two cells

-- an array's words stand before those of each later array
before : (arrays : List Array) (n m : ℕ) (a : Array) → slice_get arrays n ≡ Some a → n < m → first_place arrays n + length a.words ≤ first_place arrays m
before [] n m a there lt = absurd cc
before (x ∷ xs) n zero a there lt = absurd (omega arith)
before (x ∷ xs) zero (suc m) a there lt =
    let same : x ≡ a = cc in
    let own : length x.words ≡ length a.words = ap (λ (y : Array). length y.words) same in
    omega (arith, own, sum_by-cons (λ (y : Array). length y.words) x (take m xs))
before (x ∷ xs) (suc n) (suc m) a there lt =
    omega (arith, before xs n m a there (omega arith), sum_by-cons (λ (y : Array). length y.words) x (take n xs), sum_by-cons (λ (y : Array). length y.words) x (take m xs))

one_array : (arrays : List Array) (n m : ℕ) (y z : ℤ) (p : ℕ) → Placed arrays n y p → Placed arrays m z p → n ≡ m
one_array arrays n m y z p u v = elim (ℕ_discrete n m) [
  | yes same ↦ same
  | no other ↦
      elim (cases_lt n m) [
        | inl lt ↦ absurd (omega (arith, before arrays n m u.array u.there lt, u.at, u.inside, v.at))
        | inr le ↦ absurd (omega (arith, before arrays m n v.array v.there (omega (arith, other)), u.at, v.inside, v.at))
      ]
]

pub places_are_distinct : (c : Client) → PlacesAreDistinct c
places_are_distinct c n m y z p e f =
    let u = placed c.arrays n y p (slice_get c.arrays n) refl e in
    let v = placed c.arrays m z p (slice_get c.arrays m) refl f in
    let same = one_array c.arrays n m y z p u v in
    let first : first_place c.arrays n ≡ first_place c.arrays m = ap (first_place c.arrays) same in
    let index : u.index ≡ v.index = omega (arith, u.at, v.at, first) in
    (same, u.is ∙ ap pos index ∙ sym v.is)

-- ---- memory

get_front : (xs ys : List ℕ) (p : ℕ) → p < length xs → slice_get (xs ++ ys) p ≡ slice_get xs p
get_front [] ys p lt = absurd (omega arith)
get_front (x ∷ xs) ys zero lt = refl
get_front (x ∷ xs) ys (suc p) lt = get_front xs ys p (omega arith)

get_behind : (xs ys : List ℕ) (p : ℕ) → slice_get (xs ++ ys) (length xs + p) ≡ slice_get ys p
get_behind [] ys p = let none : 0 + p ≡ p = omega arith in rw none refl
get_behind (x ∷ xs) ys p = let more : suc (length xs) + p ≡ suc (length xs + p) = omega arith in rw more (get_behind xs ys p)

record CellAt (arrays : List Array) (p : ℕ) : Type 0 where
  number : ℕ
  index : ℕ
  array : Array
  there : slice_get arrays number ≡ Some array
  inside : index < length array.words
  at : p ≡ first_place arrays number + index

cell_at : (arrays : List Array) (p : ℕ) → p < sum_by (λ (a : Array). length a.words) arrays → CellAt arrays p
cell_at [] p lt = absurd (omega arith)
cell_at (x ∷ xs) p lt = elim (cases_lt p (length x.words)) [
  | inl here ↦ record { number = 0; index = p; array = x; there = refl; inside = here; at = omega arith }
  | inr past ↦
      let h = cell_at xs (p - length x.words) (omega (arith, sum_by-cons (λ (y : Array). length y.words) x xs)) in
      record {
        number = suc h.number;
        index = h.index;
        array = h.array;
        there = h.there;
        inside = h.inside;
        at = omega (arith, h.at, sum_by-cons (λ (y : Array). length y.words) x (take h.number xs));
      }
]

pub memory_is_cells : (c : Client) → MemoryIsCells c
memory_is_cells c p lt =
    let h = cell_at c.arrays p (rw (length-flat_map (λ (a : Array). a.words) c.arrays) at lt) in
    (h.number, h.index, has_place (slice_get c.arrays h.number) (first_place c.arrays h.number) h.index h.array h.there h.inside ∙ ap Some (sym h.at))

held : (arrays : List Array) (n k : ℕ) (a : Array) → slice_get arrays n ≡ Some a → k < length a.words → slice_get (first_memory arrays) (first_place arrays n + k) ≡ slice_get a.words k
held [] n k a there lt = absurd cc
held (x ∷ xs) zero k a there lt =
    let same : x ≡ a = cc in
    let lt' : k < length x.words = subst (λ (y : Array). k < length y.words) (sym same) lt in
    let none : 0 + k ≡ k = omega arith in
    rw none (get_front x.words (first_memory xs) k lt' ∙ ap (λ (y : Array). slice_get y.words k) same)
held (x ∷ xs) (suc n) k a there lt =
    let more : first_place (x ∷ xs) (suc n) + k ≡ length x.words + (first_place xs n + k) = omega (arith, sum_by-cons (λ (y : Array). length y.words) x (take n xs)) in
    ap (slice_get (first_memory (x ∷ xs))) more ∙ get_behind x.words (first_memory xs) (first_place xs n + k) ∙ held xs n k a there lt

pub memory_holds_arrays : (c : Client) → MemoryHoldsArrays c
memory_holds_arrays c n k p a there e =
    let h = placed c.arrays n (pos k) p (slice_get c.arrays n) refl e in
    let same : h.array ≡ a = same_Some h.array a (sym h.there ∙ there) in
    let index : k ≡ h.index = pos_injective k h.index h.is in
    let inside : k < length a.words = subst (λ (y : Array). k < length y.words) same (omega (arith, h.inside, index)) in
    ap (slice_get (first_memory c.arrays)) (h.at ∙ ap (λ i. first_place c.arrays n + i) (sym index)) ∙ held c.arrays n k a there inside
  where
    pos_injective : (i j : ℕ) → pos i ≡ pos j → i ≡ j
    pos_injective i j q = cc
