-- Rows in which all words take the place of empty intervals.
use Rattle.std.proofs.Common.{◌≡◌, ◌∙◌, ℕ, ◌+◌, ◌≤◌, ◌<◌, inl, inr, List, length, length-set, get_or, Some, slice_get, refl, sym, ap, subst, arith}
use Rattle.std.specs.Prelude.{slice_set}
use Rattle.std.proofs.lemmas.Bool.{cases_lt}
use Rattle.std.proofs.lemmas.Option.{get_or_from_slice_get, slice_get_within}
use Rattle.tso_cells.specs.Inductive.{AreInside, IsInterval}
use Rattle.tso_cells.specs.Intervals.{IsInside}
use Rattle.tso_cells.specs.declared.interval.Interval.{Interval}
use Rattle.tso_cells.proofs.Growth.{insides_refl}
use Rattle.tso_cells.proofs.ListLemmas.{set_cases}
use Rattle.tso_cells.proofs.RowLemmas.{rows_refl, rows_trans, set_rows_inside}
use Rattle.tso_cells.specs.Rows.{AreRows, AreRowsInside, IsRow, IsRowInside}

below : (n k : ℕ) → n < k + 1 → (n ≡ k → ⊥) → n < k
below n k lt other = elim (cases_lt n k) [ inl less ↦ less | inr ge ↦ absurd (other (omega (arith, lt, ge))) ]

-- the first intervals of a row are filled
pub record IsFillingRow (row after : List Interval) (k : ℕ) : Type 0 where
  pub count : length after ≡ length row
  pub keeps : AreInside row after
  pub proper : (n : ℕ) (i : Interval) → n < k → slice_get after n ≡ Some i → IsInterval i

pub filling_row_first : (row : List Interval) → IsFillingRow row row 0
filling_row_first row = record { count = refl; keeps = insides_refl row; proper = λ n i lt. absurd (omega (arith, lt)) }

pub filling_row_on : (row after : List Interval) (k : ℕ) (d i : Interval) → IsInside (get_or row k d) i → IsInterval i → IsFillingRow row after k → IsFillingRow row (slice_set after k i) (k + 1)
filling_row_on row after k d i inside p known = record {
  count = length-set after k i ∙ known.count;
  keeps = λ n x y at is. elim (set_cases after k n i y is) [
    | inl same ↦
        let own : get_or row k d ≡ x = ap (λ m. get_or row m d) (sym same.0) ∙ get_or_from_slice_get row n x d at in
        subst (λ (z : Interval). IsInside x z) (sym same.1) (subst (λ (z : Interval). IsInside z i) own inside)
    | inr was ↦ known.keeps n x y at was.1
  ];
  proper = λ n y lt is. elim (set_cases after k n i y is) [
    | inl same ↦ subst (λ (z : Interval). IsInterval z) (sym same.1) p
    | inr was ↦ known.proper n y (below n k lt was.0) was.1
  ];
}

pub filled_all : (row after : List Interval) (k : ℕ) → length row ≡ 15 → 15 ≤ k → IsFillingRow row after k → IsRowInside row after × IsRow after
filled_all row after k size le known =
    ((known.count, known.keeps), (known.count ∙ size, λ n i at. let lt = slice_get_within after n i at in let same = known.count in known.proper n i (omega (arith, lt, le, size, same)) at))

-- the first rows are filled
pub record IsFilling (rows after : List (List Interval)) (k : ℕ) : Type 0 where
  pub count : length after ≡ length rows
  pub keeps : AreRowsInside rows after
  pub proper : (n : ℕ) (xs : List Interval) → n < k → slice_get after n ≡ Some xs → IsRow xs

pub filling_first : (rows : List (List Interval)) → IsFilling rows rows 0
filling_first rows = record { count = refl; keeps = rows_refl rows; proper = λ n xs lt. absurd (omega (arith, lt)) }

pub filling_on : (rows after : List (List Interval)) (k : ℕ) (d row : List Interval) → IsRowInside (get_or after k d) row → IsRow row → IsFilling rows after k → IsFilling rows (slice_set after k row) (k + 1)
filling_on rows after k d row inside p known = record {
  count = length-set after k row ∙ known.count;
  keeps = rows_trans rows after (slice_set after k row) known.count known.keeps (set_rows_inside after k d row inside);
  proper = λ n xs lt is. elim (set_cases after k n row xs is) [
    | inl same ↦ subst (λ (z : List Interval). IsRow z) (sym same.1) p
    | inr was ↦ known.proper n xs (below n k lt was.0) was.1
  ];
}

pub filled_rows : (rows after : List (List Interval)) (k : ℕ) → length rows ≤ k → IsFilling rows after k → AreRows after
filled_rows rows after k le known n xs at = let lt = slice_get_within after n xs at in let same = known.count in known.proper n xs (omega (arith, lt, le, same)) at
