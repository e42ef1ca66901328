-- A row that takes up another one, interval by interval.
use Rattle.std.proofs.Common.{◌≡◌, ℕ, ◌+◌, ◌^◌, ◌≤◌, ◌<◌, inl, inr, Bool, true, false, not, ◌||◌, if◌then◌else◌, List, length, get_or, Some, slice_get, sym, subst, arith}
use Rattle.std.specs.Prelude.{slice_set}
use Rattle.std.proofs.lemmas.Bool.{cases_lt}
use Rattle.std.proofs.lemmas.Option.{get_or_from_slice_get, slice_get-get_or, slice_get_within}
use Rattle.tso_cells.specs.Inductive.{AreInside, AreIntervals, IsInterval}
use Rattle.tso_cells.specs.Intervals.{IsInside, all_words}
use Rattle.tso_cells.specs.declared.interval.Interval.{Interval}
use Rattle.tso_cells.proofs.Growth.{greatest_below, joined_left, none_grown, set_grown, set_holds, then_grown}
use Rattle.tso_cells.proofs.ListLemmas.{set_cases}
use Rattle.tso_cells.specs.Growing.{AreGrown, empty, grown, interval_at, is_inside, joined, taken}
use Rattle.tso_cells.specs.declared.growing.Growth.{Growth}
use Rattle.tso_cells.specs.declared.growing.Growth.TheVariants.{Least, Whole}

-- ---- intervals with a word each

pub inside_words : (i : Interval) → i.hi < 2 ^ 64 → IsInside i all_words
inside_words i small = (omega arith, omega (arith, small))

taken_proper : (g : Growth) (j : Interval) → IsInterval j → IsInterval (taken g all_words j)
taken_proper Least j p = p
taken_proper Whole j p = (omega arith, omega arith)

joined_proper : (i j : Interval) → IsInterval i → IsInterval j → IsInterval (joined i j)
joined_proper i j p q =
    let inside = joined_left i j in
    let low = inside.0 in
    let high = inside.1 in
    let le = p.0 in
    (omega (arith, low, high, le), greatest_below i.hi j.hi (2 ^ 64) p.1 q.1)

grown_proper : (g : Growth) (i j : Interval) → IsInterval i → IsInterval j → IsInterval (grown g all_words i j)
grown_proper g i j p q = go (is_inside j i)
  where
    go : (b : Bool) → IsInterval (if b then i else joined i (taken g all_words j))
    go true = p
    go false = joined_proper i (taken g all_words j) p (taken_proper g j q)

-- an interval of a list that has some
pub proper_at : (xs : List Interval) (k : ℕ) (d : Interval) → AreIntervals xs → k < length xs → IsInterval (get_or xs k d)
proper_at xs k d all lt = all k (get_or xs k d) (slice_get-get_or xs k d lt)

pub set_proper : (xs : List Interval) (k : ℕ) (i : Interval) → AreIntervals xs → IsInterval i → AreIntervals (slice_set xs k i)
set_proper xs k i all p n j at = elim (set_cases xs k n i j at) [
  | inl same ↦ subst (λ x. IsInterval x) (sym same.1) p
  | inr was ↦ all n j was.1
]

-- ---- a row on the way

-- the row has grown from what it was, and holds the first intervals of the other
pub record IsTaking (g : Growth) (before row other : List Interval) (k : ℕ) (is_grown : Bool) : Type 0 where
  pub grew : AreGrown g all_words before row is_grown
  pub holds : (n : ℕ) (i j : Interval) → n < k → slice_get other n ≡ Some i → slice_get row n ≡ Some j → IsInside i j
  pub proper : AreIntervals other → AreIntervals before → AreIntervals row

pub taking_first : (g : Growth) (row other : List Interval) → IsTaking g row row other 0 false
taking_first g row other = record { grew = none_grown g all_words row; holds = λ n i j lt. absurd (omega (arith, lt)); proper = λ p q. q }

pub taking_on : (g : Growth) (before row other : List Interval) (k : ℕ) (d : Interval) (f r : Bool) → k < length row → k < length other → IsInside (get_or other k d) all_words
    → r ≡ not (is_inside (get_or other k d) (interval_at row k)) → IsTaking g before row other k f
    → IsTaking g before (slice_set row k (grown g all_words (interval_at row k) (get_or other k d))) other (k + 1) (f || r)
taking_on g before row other k d f r lt lt' inside flag known = record {
  grew = then_grown g all_words before row _ f r known.grew (set_grown g all_words row k (get_or other k d) r lt inside flag);
  holds = λ n i j less at is. elim (cases_lt n k) [
    | inl below ↦ elim (set_cases row k n _ j is) [
      | inl same ↦ let e = same.0 in absurd (omega (arith, below, e))
      | inr was ↦ known.holds n i j below at was.1
    ]
    | inr ge ↦
        let e : n ≡ k = omega (arith, less, ge) in
        let one : get_or other k d ≡ i = get_or_from_slice_get other k i d (subst (λ m. slice_get other m ≡ Some i) e at) in
        subst (λ x. IsInside x j) one (set_holds g all_words row k (get_or other k d) j inside (subst (λ m. slice_get (slice_set row k (grown g all_words (interval_at row k) (get_or other k d))) m ≡ Some j) e is))
  ];
  proper = λ p q. set_proper row k _ (known.proper p q) (grown_proper g (interval_at row k) (get_or other k d) (proper_at row k empty (known.proper p q) lt) (proper_at other k d p lt'));
}

-- at the end it holds all
pub taken_all : (g : Growth) (before row other : List Interval) (k : ℕ) (f : Bool) → length other ≤ k → IsTaking g before row other k f → AreInside other row
taken_all g before row other k f le known n i j at is = let lt = slice_get_within other n i at in known.holds n i j (omega (arith, lt, le)) at is
