-- Intervals that grow hold what they held, and what they are to hold.
use Rattle.std.proofs.Common.{◌≡◌, ◌∙◌, ℕ, ◌≤◌, ◌<◌, inl, inr, Bool, true, false, not, ◌||◌, nat_le, if◌then◌else◌, List, length, length-set, get_or, Some, slice_get, refl, sym, ap, subst, arith}
use Rattle.std.specs.Prelude.{slice_set}
use Rattle.std.proofs.lemmas.Bool.{and_from, and_parts, false≢true, le-leb, leb-false, leb-true, not-false, not-true}
use Rattle.std.proofs.lemmas.List.{set-get_or}
use Rattle.std.proofs.lemmas.List.Sums.{sum_by-set}
use Rattle.std.proofs.lemmas.Option.{get_or_from_slice_get, same_Some, slice_get-get_or, slice_get_within}
use Rattle.tso_cells.specs.Inductive.{AreInside}
use Rattle.tso_cells.specs.Intervals.{IsInside}
use Rattle.tso_cells.specs.declared.interval.Interval.{Interval}
use Rattle.tso_cells.proofs.ListLemmas.{set_cases}
use Rattle.tso_cells.specs.Growing.{AreGrown, empty, grown, interval_at, is_inside, joined, lacks, room, taken}
use Rattle.tso_cells.specs.declared.growing.Growth.{Growth}
use Rattle.tso_cells.specs.declared.growing.Growth.TheVariants.{Least, Whole}

-- ---- one interval

pub inside_refl : (i : Interval) → IsInside i i
inside_refl i = (omega arith, omega arith)

pub inside_trans : (i j k : Interval) → IsInside i j → IsInside j k → IsInside i k
inside_trans i j k p q = let a = p.0 in let b = p.1 in let c = q.0 in let d = q.1 in (omega (arith, a, c), omega (arith, b, d))

pub inside_is : (i j : Interval) → IsInside i j → is_inside i j ≡ true
inside_is i j p = and_from (nat_le j.lo i.lo) (nat_le i.hi j.hi) (le-leb j.lo i.lo p.0) (le-leb i.hi j.hi p.1)

pub inside_by : (i j : Interval) → is_inside i j ≡ true → IsInside i j
inside_by i j h = let p = and_parts (nat_le j.lo i.lo) (nat_le i.hi j.hi) h in (leb-true j.lo i.lo p.0, leb-true i.hi j.hi p.1)

least : (a b : ℕ) → ((if nat_le a b then a else b) ≤ a) × ((if nat_le a b then a else b) ≤ b)
least a b = go (nat_le a b) refl
  where
    go : (c : Bool) → nat_le a b ≡ c → ((if c then a else b) ≤ a) × ((if c then a else b) ≤ b)
    go true e = let le = leb-true a b e in (omega arith, omega (arith, le))
    go false e = let lt = leb-false a b e in (omega (arith, lt), omega arith)

greatest : (a b : ℕ) → (a ≤ (if nat_le a b then b else a)) × (b ≤ (if nat_le a b then b else a))
greatest a b = go (nat_le a b) refl
  where
    go : (c : Bool) → nat_le a b ≡ c → (a ≤ (if c then b else a)) × (b ≤ (if c then b else a))
    go true e = let le = leb-true a b e in (omega (arith, le), omega arith)
    go false e = let lt = leb-false a b e in (omega arith, omega (arith, lt))

-- the greater of two numbers is below what both are below
pub greatest_below : (a b n : ℕ) → a < n → b < n → (if nat_le a b then b else a) < n
greatest_below a b n p q = go (nat_le a b)
  where
    go : (c : Bool) → (if c then b else a) < n
    go true = q
    go false = p

pub joined_left : (i j : Interval) → IsInside i (joined i j)
joined_left i j = ((least i.lo j.lo).0, (greatest i.hi j.hi).0)

pub joined_right : (i j : Interval) → IsInside j (joined i j)
joined_right i j = ((least i.lo j.lo).1, (greatest i.hi j.hi).1)

-- what holds both holds the least interval that does
pub joined_inside : (i j k : Interval) → IsInside i k → IsInside j k → IsInside (joined i j) k
joined_inside i j k p q = (low (nat_le i.lo j.lo), high (nat_le i.hi j.hi))
  where
    low : (c : Bool) → k.lo ≤ (if c then i.lo else j.lo)
    low true = p.0
    low false = q.0

    high : (c : Bool) → (if c then j.hi else i.hi) ≤ k.hi
    high true = q.1
    high false = p.1

pub grown_keeps : (g : Growth) (w i j : Interval) → IsInside i (grown g w i j)
grown_keeps g w i j = go (is_inside j i)
  where
    go : (b : Bool) → IsInside i (if b then i else joined i (taken g w j))
    go true = inside_refl i
    go false = joined_left i (taken g w j)

taken_holds : (g : Growth) (w j : Interval) → IsInside j w → IsInside j (taken g w j)
taken_holds Least w j p = inside_refl j
taken_holds Whole w j p = p

pub grown_holds : (g : Growth) (w i j : Interval) → IsInside j w → IsInside j (grown g w i j)
grown_holds g w i j inside = go (is_inside j i) refl
  where
    go : (b : Bool) → is_inside j i ≡ b → IsInside j (if b then i else joined i (taken g w j))
    go true e = inside_by j i e
    go false e = inside_trans j (taken g w j) (joined i (taken g w j)) (taken_holds g w j inside) (joined_right i (taken g w j))

lacks_none : (w i : Interval) → is_inside w i ≡ true → lacks w i ≡ 0
lacks_none w i e = ap (λ (b : Bool). if b then 0 else 1) e

lacks_one : (w i : Interval) → is_inside w i ≡ false → lacks w i ≡ 1
lacks_one w i e = ap (λ (b : Bool). if b then 0 else 1) e

grown_lacks : (w i j : Interval) → IsInside j w → is_inside j i ≡ false → lacks w (grown Whole w i j) < lacks w i
grown_lacks w i j inside other =
    let one = lacks_one w i (lacking (is_inside w i) refl) in
    let none = lacks_none w (joined i w) (inside_is w (joined i w) (joined_right i w)) in
    let is : lacks w (grown Whole w i j) ≡ lacks w (joined i w) = ap (λ (b : Bool). lacks w (if b then i else joined i w)) other in
    omega (arith, one, none, is)
  where
    lacking : (b : Bool) → is_inside w i ≡ b → is_inside w i ≡ false
    lacking true e = absurd (false≢true (sym other ∙ inside_is j i (inside_trans j w i inside (inside_by w i e))))
    lacking false e = e

-- ---- rows and spans

pub insides_refl : (xs : List Interval) → AreInside xs xs
insides_refl xs n i j at is = let same : i ≡ j = same_Some i j (sym at ∙ is) in subst (λ x. IsInside i x) same (inside_refl i)

pub insides_trans : (xs ys zs : List Interval) → length ys ≡ length xs → AreInside xs ys → AreInside ys zs → AreInside xs zs
insides_trans xs ys zs e p q n i k at is =
    let lt = slice_get_within xs n i at in
    let j = get_or ys n empty in
    let there : slice_get ys n ≡ Some j = slice_get-get_or ys n empty (omega (arith, lt, e)) in
    inside_trans i j k (p n i j at there) (q n j k there is)

-- an interval that grows where it stands
pub set_grown : (g : Growth) (w : Interval) (xs : List Interval) (k : ℕ) (other : Interval) (r : Bool) → k < length xs → IsInside other w → r ≡ not (is_inside other (interval_at xs k))
    → AreGrown g w xs (slice_set xs k (grown g w (interval_at xs k) other)) r
set_grown g w xs k other r lt inside flag = record {
  count = length-set xs k _;
  keeps = λ n i j at is. elim (set_cases xs k n _ j is) [
    | inl same ↦
        let old : get_or xs n empty ≡ i = get_or_from_slice_get xs n i empty at in
        let there : interval_at xs k ≡ i = ap (λ m. get_or xs m empty) (sym same.0) ∙ old in
        subst (λ x. IsInside x j) there (subst (λ x. IsInside (interval_at xs k) x) (sym same.1) (grown_keeps g w (interval_at xs k) other))
    | inr was ↦ subst (λ x. IsInside i x) (same_Some i j (sym at ∙ was.1)) (inside_refl i)
  ];
  fewer = λ whole yes.
      let falls : lacks w (grown g w (interval_at xs k) other) < lacks w (interval_at xs k) =
      subst (λ x. lacks w (grown x w (interval_at xs k) other) < lacks w (interval_at xs k)) (sym whole)
      (grown_lacks w (interval_at xs k) other inside (not-true (is_inside other (interval_at xs k)) (sym flag ∙ yes))) in
      let sums = sum_by-set (lacks w) xs k (grown g w (interval_at xs k) other) empty lt in
      omega (arith, falls, sums);
  same = λ none.
      let is : is_inside other (interval_at xs k) ≡ true = not-false (is_inside other (interval_at xs k)) (sym flag ∙ none) in
      let old : grown g w (interval_at xs k) other ≡ interval_at xs k = ap (λ (b : Bool). if b then interval_at xs k else joined (interval_at xs k) (taken g w other)) is in
      ap (slice_set xs k) old ∙ set-get_or xs k empty;
}

-- it holds the other one then
pub set_holds : (g : Growth) (w : Interval) (xs : List Interval) (k : ℕ) (other t : Interval) → IsInside other w → slice_get (slice_set xs k (grown g w (interval_at xs k) other)) k ≡ Some t
    → IsInside other t
set_holds g w xs k other t inside at = elim (set_cases xs k k _ t at) [
  | inl same ↦ subst (λ x. IsInside other x) (sym same.1) (grown_holds g w (interval_at xs k) other inside)
  | inr other ↦ absurd (other.0 refl)
]

pub none_grown : (g : Growth) (w : Interval) (xs : List Interval) → AreGrown g w xs xs false
none_grown g w xs = record { count = refl; keeps = insides_refl xs; fewer = λ whole grew. absurd (false≢true grew); same = λ none. refl }

-- one change after another
pub then_grown : (g : Growth) (w : Interval) (xs ys zs : List Interval) (f r : Bool) → AreGrown g w xs ys f → AreGrown g w ys zs r → AreGrown g w xs zs (f || r)
then_grown g w xs ys zs f r p q = record {
  count = q.count ∙ p.count;
  keeps = insides_trans xs ys zs p.count p.keeps q.keeps;
  fewer = λ whole grew. fall f r p q whole grew;
  same = λ none. rest f r p q none;
}
  where
    fall : (f r : Bool) → AreGrown g w xs ys f → AreGrown g w ys zs r → g ≡ Whole → (f || r) ≡ true → room w zs < room w xs
    fall true true p q whole grew = let a = p.fewer whole refl in let b = q.fewer whole refl in omega (arith, a, b)
    fall false true p q whole grew = let b = q.fewer whole refl in let e = ap (room w) (p.same refl) in omega (arith, b, e)
    fall true false p q whole grew = let a = p.fewer whole refl in let e = ap (room w) (q.same refl) in omega (arith, a, e)
    fall false false p q whole grew = absurd (false≢true grew)

    rest : (f r : Bool) → AreGrown g w xs ys f → AreGrown g w ys zs r → (f || r) ≡ false → zs ≡ xs
    rest true r p q none = absurd (false≢true (sym none))
    rest false true p q none = absurd (false≢true (sym none))
    rest false false p q none = q.same refl ∙ p.same refl
