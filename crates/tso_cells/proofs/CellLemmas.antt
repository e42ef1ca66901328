-- Cells of lists, and the cells of a memory operand.
use Rattle.std.proofs.Common.{◌≡◌, ◌∙◌, ℕ, zero, suc, ◌+◌, ◌-◌, ◌^◌, ◌%◌, ◌≤◌, ◌<◌, inl, inr, Bool, true, false, ◌&&◌, ◌||◌, nat_le, nat_lt, ◌==◌, if◌then◌else◌, List, [], ◌∷◌, length, Option, None, Some, slice_get, refl, sym, ap, subst, arith}
use Rattle.std.specs.Prelude.{sum_by, ℤ, pos, negsuc, ◌+ℤ◌}
use Rattle.std.proofs.lemmas.Bool.{and_from, and_parts, eqb-true, false≢true, le-leb, leb-true, lt-ltb, ltb-true, or_cases, or_left, or_right}
use Rattle.std.proofs.lemmas.Int.{ints}
use Rattle.std.proofs.lemmas.List.Sums.{sum_by-cons}
use Rattle.std.proofs.lemmas.Option.{none-some, same_Some}
use Rattle.tso_cells.specs.Cells.{cut, greatest_index, has_all_of, has_cell, holds, holds_all, index_interval, is_cell, least_index, operand_cells, size_of}
use Rattle.tso_cells.specs.declared.table.Cells.{Cells}
use Rattle.tso_cells.proofs.Lying.{register_in}
use Rattle.tso_cells.specs.Intervals.{has, lie_in}
use Rattle.tso_cells.specs.declared.interval.Interval.{Interval}
use Rattle.tso_line.specs.Proper.{is_near}
use Rattle.tso_line.specs.declared.instruction.Address.{Address}
use Rattle.tso_line.specs.declared.instruction.Register.{Register}
use Rattle.tso_machine.specs.Places.{first_place, index_of, index_register, operand_place, place_in}
use Rattle.tso_machine.specs.declared.frame.Frame.{Frame}
use Rattle.tso_prog.specs.declared.client.Array.{Array}

-- ---- lists

cell_by : (arrays : List Array) (c : Cells) (place : ℕ) → first_place arrays c.array + c.lo ≤ place → place ≤ first_place arrays c.array + c.hi → is_cell arrays c place ≡ true
cell_by arrays c place low high =
    and_from (nat_le (first_place arrays c.array + c.lo) place) (nat_le place (first_place arrays c.array + c.hi)) (le-leb _ _ low) (le-leb _ _ high)

wider_cell : (arrays : List Array) (d c : Cells) (place : ℕ) → has_all_of d c ≡ true → is_cell arrays c place ≡ true → is_cell arrays d place ≡ true
wider_cell arrays d c place h at =
    let parts = and_parts (d.array == c.array) (nat_le d.lo c.lo && nat_le c.hi d.hi) h in
    let ends = and_parts (nat_le d.lo c.lo) (nat_le c.hi d.hi) parts.1 in
    let same : first_place arrays d.array ≡ first_place arrays c.array = ap (first_place arrays) (eqb-true d.array c.array parts.0) in
    let low = leb-true d.lo c.lo ends.0 in
    let high = leb-true c.hi d.hi ends.1 in
    let is = and_parts (nat_le (first_place arrays c.array + c.lo) place) (nat_le place (first_place arrays c.array + c.hi)) at in
    let from = leb-true (first_place arrays c.array + c.lo) place is.0 in
    let to = leb-true place (first_place arrays c.array + c.hi) is.1 in
    cell_by arrays d place (omega (arith, same, low, from)) (omega (arith, same, high, to))

holds_place : (arrays : List Array) (ds : List Cells) (c : Cells) (place : ℕ) → holds ds c ≡ true → is_cell arrays c place ≡ true → has_cell arrays ds place ≡ true
holds_place arrays [] c place h at = absurd (false≢true h)
holds_place arrays (d ∷ ds) c place h at = elim (or_cases (has_all_of d c) (holds ds c) h) [
  | inl here ↦ or_left (is_cell arrays d place) (has_cell arrays ds place) (wider_cell arrays d c place here at)
  | inr rest ↦ or_right (is_cell arrays d place) (has_cell arrays ds place) (holds_place arrays ds c place rest at)
]

pub holds_all_place : (arrays : List Array) (ds cs : List Cells) (place : ℕ) → holds_all ds cs ≡ true → has_cell arrays cs place ≡ true → has_cell arrays ds place ≡ true
holds_all_place arrays ds [] place h at = absurd (false≢true at)
holds_all_place arrays ds (c ∷ cs) place h at =
    let parts = and_parts (holds ds c) (holds_all ds cs) h in
    elim (or_cases (is_cell arrays c place) (has_cell arrays cs place) at) [
      | inl here ↦ holds_place arrays ds c place parts.0 here
      | inr rest ↦ holds_all_place arrays ds cs place parts.1 rest
    ]

-- ---- sizes

pub size_within : (arrays : List Array) (n : ℕ) → size_of (slice_get arrays n) ≤ sum_by (λ (a : Array). length a.words) arrays
size_within [] n = omega arith
size_within (a ∷ rest) zero = let e = sum_by-cons (λ (x : Array). length x.words) a rest in omega (arith, e)
size_within (a ∷ rest) (suc n) = let e = sum_by-cons (λ (x : Array). length x.words) a rest in let h = size_within rest n in omega (arith, e, h)

-- ---- the cells of an operand

-- a place in an array is its first place and an index that it has
record IsPlaced (o : Option Array) (first : ℕ) (z : ℤ) (p : ℕ) : Type 0 where
  pub at : ℕ
  pub index : z ≡ pos at
  pub inside : at < size_of o
  pub place : p ≡ first + at

placed : (o : Option Array) (first : ℕ) (z : ℤ) (p : ℕ) → place_in o first z ≡ Some p → IsPlaced o first z p
placed None first z p e = absurd (none-some p e)
placed (Some a) first (negsuc k) p e = absurd (none-some p e)
placed (Some a) first (pos k) p e = go (nat_lt k (length a.words)) refl e
  where
    go : (b : Bool) → nat_lt k (length a.words) ≡ b → (if b then Some (first + k) else None) ≡ Some p → IsPlaced (Some a) first (pos k) p
    go true is e = record { at = k; index = refl; inside = ltb-true k (length a.words) is; place = sym (same_Some (first + k) p e) }
    go false is e = absurd (none-some p e)

-- an index that is cut to its array
cut_has : (arrays : List Array) (array size lo hi k : ℕ) → lo ≤ k → k ≤ hi → k < size → has_cell arrays (cut array size lo (Some hi)) (first_place arrays array + k) ≡ true
cut_has arrays array size lo hi k low high inside =
    go (nat_lt lo size && nat_le lo hi) (and_from (nat_lt lo size) (nat_le lo hi) (lt-ltb lo size (omega (arith, low, inside))) (le-leb lo hi (omega (arith, low, high))))
  where
    last : (b : Bool) → nat_lt hi size ≡ b → k ≤ (if b then hi else size - 1)
    last true is = high
    last false is = omega (arith, inside)

    go : (b : Bool) → b ≡ true → has_cell arrays (if b then record { array = array; lo = lo; hi = if nat_lt hi size then hi else size - 1 } ∷ [] else []) (first_place arrays array + k) ≡ true
    go false e = absurd (false≢true e)
    go true e =
        let end = last (nat_lt hi size) refl in
        or_left (is_cell arrays (record { array = array; lo = lo; hi = if nat_lt hi size then hi else size - 1 }) (first_place arrays array + k)) false
        (cell_by arrays (record { array = array; lo = lo; hi = if nat_lt hi size then hi else size - 1 }) (first_place arrays array + k) (omega (arith, low)) (omega (arith, end)))

-- an index in its interval, with its displacement
index_has : (arrays : List Array) (array size : ℕ) (i : Interval) (r k : ℕ) (offset : ℤ) → is_near offset ≡ true → size ≤ 256 → has i r ≡ true → (pos r +ℤ offset) ≡ pos k → k < size
    → has_cell arrays (cut array size (least_index i.lo offset) (greatest_index i.hi offset)) (first_place arrays array + k) ≡ true
index_has arrays array size i r k (pos n) near few h e inside =
    let parts = and_parts (nat_le i.lo (r % 2 ^ 64)) (nat_le (r % 2 ^ 64) i.hi) h in
    let low = leb-true i.lo (r % 2 ^ 64) parts.0 in
    let high = leb-true (r % 2 ^ 64) i.hi parts.1 in
    let sum : r + n ≡ k = omega (arith, ints, e) in
    cut_has arrays array size (i.lo + n) (i.hi + n) k (omega (arith, low, sum)) (omega (arith, high, sum, few, inside)) inside
index_has arrays array size i r k (negsuc m) near few h e inside =
    let parts = and_parts (nat_le i.lo (r % 2 ^ 64)) (nat_le (r % 2 ^ 64) i.hi) h in
    let low = leb-true i.lo (r % 2 ^ 64) parts.0 in
    let high = leb-true (r % 2 ^ 64) i.hi parts.1 in
    let sum : r ≡ k + (m + 1) = omega (arith, ints, e) in
    let small = ltb-true m (2 ^ 28) near in
    go (nat_lt m i.hi) refl (lt-ltb m i.hi (omega (arith, high, sum, few, inside, small))) low high sum small
  where
    go : (b : Bool) → nat_lt m i.hi ≡ b → nat_lt m i.hi ≡ true → i.lo ≤ r % 2 ^ 64 → r % 2 ^ 64 ≤ i.hi → r ≡ k + (m + 1) → m < 2 ^ 28
        → has_cell arrays (cut array size (i.lo - (m + 1)) (if b then Some (i.hi - (m + 1)) else None)) (first_place arrays array + k) ≡ true
    go true is below low high sum small =
        cut_has arrays array size (i.lo - (m + 1)) (i.hi - (m + 1)) k (omega (arith, low, sum, few, inside, small)) (omega (arith, high, sum, few, inside, small)) inside
    go false is below low high sum small = absurd (false≢true (sym is ∙ below))

index_in : (xs : List Interval) (f : Frame) (o : Option Register) → lie_in xs f.registers ≡ true → has (index_interval xs o) (index_register f o) ≡ true
index_in xs f None h = refl
index_in xs f (Some r) h = register_in xs f r h

pub operand_has : (arrays : List Array) (xs : List Interval) (f : Frame) (a : Address ℕ) (p : ℕ) → sum_by (λ (x : Array). length x.words) arrays ≤ 256 → is_near a.offset ≡ true
    → lie_in xs f.registers ≡ true → operand_place arrays f a ≡ Some p → has_cell arrays (operand_cells arrays xs a) p ≡ true
operand_has arrays xs f a p few near lie e =
    let at = placed (slice_get arrays a.array) (first_place arrays a.array) (index_of f a) p e in
    let size = size_within arrays a.array in
    subst (λ q. has_cell arrays (operand_cells arrays xs a) q ≡ true) (sym at.place)
    (index_has arrays a.array (size_of (slice_get arrays a.array)) (index_interval xs a.index) (index_register f a.index) at.at a.offset near (omega (arith, size, few)) (index_in xs f a.index lie) at.index at.inside)
