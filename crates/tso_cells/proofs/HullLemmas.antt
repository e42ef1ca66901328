-- Hulls that take in words.
use Rattle.std.proofs.Common.{◌≡◌, ◌∙◌, ℕ, zero, suc, ◌+◌, ◌≤◌, ◌<◌, inl, inr, true, List, [], ◌∷◌, ◌++◌, length, length-set, append_assoc, append-nil, take, drop, drop-cons, add-one, get_or, Some, slice_get, refl, sym, ap, subst, arith}
use Rattle.std.specs.Prelude.{slice_set}
use Rattle.std.proofs.Math.ListN.{drop_of_length-le}
use Rattle.std.proofs.lemmas.Bool.{and_from, and_parts, false≢true}
use Rattle.std.proofs.lemmas.List.{drop-set-lt, take_more, take_more_set}
use Rattle.std.proofs.lemmas.Option.{get_or_from_slice_get, same_Some}
use Rattle.tso_flow.specs.declared.location.ProcedureKind.{ProcedureKind}
use Rattle.tso_flow.specs.declared.location.ProcedureKind.TheVariants as procedures
use Rattle.tso_cells.specs.Intervals.{alone, has, lie_in}
use Rattle.tso_cells.specs.declared.interval.Interval.{Interval}
use Rattle.tso_cells.proofs.Growth.{joined_left}
use Rattle.tso_cells.proofs.ListLemmas.{set_cases}
use Rattle.tso_cells.proofs.StartLemmas.{wider}
use Rattle.tso_cells.specs.Growing.{with_word}
use Rattle.tso_cells.specs.Hulls.{KeepsWords, row_at, rows_of, with_words, with_words_at}
use Rattle.tso_cells.specs.declared.hulls.Hull.{Hull}

-- ---- a row

take_all : {X : Type 0} (xs : List X) (n : ℕ) → length xs ≤ n → take n xs ≡ xs
take_all [] zero le = refl
take_all [] (suc n) le = refl
take_all (x ∷ xs) zero le = absurd (omega (arith, le))
take_all {X = X} (x ∷ xs) (suc n) le = ap (λ (ys : List X). x ∷ ys) (take_all xs n (omega (arith, le)))

lie_more : (xs : List Interval) (ws : List ℕ) (i : Interval) (w : ℕ) → lie_in xs ws ≡ true → has i w ≡ true → lie_in (xs ++ i ∷ []) (ws ++ w ∷ []) ≡ true
lie_more [] [] i w h p = and_from (has i w) true p refl
lie_more [] (v ∷ ws) i w h p = absurd (false≢true h)
lie_more (x ∷ xs) [] i w h p = absurd (false≢true h)
lie_more (x ∷ xs) (v ∷ ws) i w h p =
    let parts = and_parts (has x v) (lie_in xs ws) h in
    and_from (has x v) (lie_in (xs ++ i ∷ []) (ws ++ w ∷ [])) parts.0 (lie_more xs ws i w parts.1 p)

-- the row has taken in the first words
pub record IsTakingWords (row : List Interval) (words : List ℕ) (after : List Interval) (k : ℕ) : Type 0 where
  pub count : length after ≡ length row
  pub is : take k after ++ with_words (drop k after) (drop k words) ≡ with_words row words
  pub lie : lie_in (take k after) (take k words) ≡ true

pub words_first : (row : List Interval) (words : List ℕ) → IsTakingWords row words row 0
words_first row words = record { count = refl; is = refl; lie = refl }

pub words_on : (row : List Interval) (words : List ℕ) (after : List Interval) (k : ℕ) (d i : Interval) (e : ℕ) → k < length after → k < length words → i ≡ with_word (get_or after k d) (get_or words k e)
    → has i (get_or words k e) ≡ true → IsTakingWords row words after k → IsTakingWords row words (slice_set after k i) (k + 1)
words_on row words after k d i e lt lt' new h known = record {
  count = length-set after k i ∙ known.count;
  is =
      let head = take_more_set after k i lt in
      let tail = drop-set-lt (k + 1) after k i (omega arith) in
      let rest = with_words (drop (k + 1) after) (drop (k + 1) words) in
      let first : with_words (drop k after) (drop k words) ≡ i ∷ rest =
      ap (λ (x : List Interval). with_words x (drop k words)) (drop-cons after k d lt) ∙ (ap (λ (x : List ℕ). with_words (get_or after k d ∷ drop (suc k) after) x) (drop-cons words k e lt')
      ∙ (ap (λ (x : Interval). x ∷ with_words (drop (suc k) after) (drop (suc k) words)) (sym new) ∙ ap (λ n. i ∷ with_words (drop n after) (drop n words)) (sym (add-one k)))) in
      ap (λ (x : List Interval). take (k + 1) (slice_set after k i) ++ with_words x (drop (k + 1) words)) tail ∙ (ap (λ (x : List Interval). x ++ rest) head
      ∙ (append_assoc (take k after) (i ∷ []) rest ∙ (ap (λ (x : List Interval). take k after ++ x) (sym first) ∙ known.is)));
  lie =
      let head = take_more_set after k i lt in
      let more = take_more words k e lt' in
      subst (λ (x : List Interval). lie_in x (take (k + 1) words) ≡ true) (sym head) (subst (λ (x : List ℕ). lie_in (take k after ++ i ∷ []) x ≡ true) (sym more) (lie_more (take k after) (take k words) i (get_or words k e) known.lie h));
}

pub words_all : (row : List Interval) (words : List ℕ) (after : List Interval) (k : ℕ) → length row ≤ k → length words ≤ k → IsTakingWords row words after k → (after ≡ with_words row words) × (lie_in after words ≡ true)
words_all row words after k le le' known =
    let size = known.count in
    let all = take_all after k (omega (arith, size, le)) in
    let none = drop_of_length-le after (omega (arith, size, le)) in (
      sym all ∙ (sym (append-nil (take k after)) ∙ (ap (λ (x : List Interval). take k after ++ with_words x (drop k words)) (sym none) ∙ known.is)),
      subst (λ (x : List Interval). lie_in x words ≡ true) all (subst (λ (x : List ℕ). lie_in (take k after) x ≡ true) (take_all words k le') known.lie),
    )

-- ---- rows

lie_with : (xs : List Interval) (words ws : List ℕ) → lie_in xs ws ≡ true → lie_in (with_words xs words) ws ≡ true
lie_with [] words ws h = h
lie_with (x ∷ xs) [] ws h = h
lie_with (x ∷ xs) (v ∷ words) [] h = absurd (false≢true h)
lie_with (x ∷ xs) (v ∷ words) (w ∷ ws) h =
    let parts = and_parts (has x w) (lie_in xs ws) h in
    and_from (has (with_word x v) w) (lie_in (with_words xs words) ws) (wider x (with_word x v) w (joined_left x (alone v)) parts.0) (lie_with xs words ws parts.1)

pub keeps_same : (rows : List (List Interval)) → KeepsWords rows rows
keeps_same rows = record { count = refl; lying = λ n xs ys words at is h. subst (λ (x : List Interval). lie_in x words ≡ true) (same_Some xs ys (sym at ∙ is)) h }

pub keeps_words : (rows : List (List Interval)) (position : ℕ) (words : List ℕ) → KeepsWords rows (with_words_at rows position words)
keeps_words rows position words = record {
  count = length-set rows position _;
  lying = λ n xs ys ws at is h. elim (set_cases rows position n _ ys is) [
    | inl same ↦
        let own : row_at rows position ≡ xs = ap (λ m. get_or rows m []) (sym same.0) ∙ get_or_from_slice_get rows n xs [] at in
        let wide : lie_in (with_words (row_at rows position) words) ws ≡ true = subst (λ (x : List Interval). lie_in (with_words x words) ws ≡ true) (sym own) (lie_with xs words ws h) in
        subst (λ (x : List Interval). lie_in x ws ≡ true) (sym same.1) wide
    | inr was ↦ subst (λ (x : List Interval). lie_in x ws ≡ true) (same_Some xs ys (sym at ∙ was.1)) h
  ];
}

pub set_lies : (rows : List (List Interval)) (position : ℕ) (row xs : List Interval) (words : List ℕ) → lie_in row words ≡ true → slice_get (slice_set rows position row) position ≡ Some xs → lie_in xs words ≡ true
set_lies rows position row xs words h at = elim (set_cases rows position position row xs at) [
  | inl same ↦ subst (λ (x : List Interval). lie_in x words ≡ true) (sym same.1) h
  | inr was ↦ absurd (was.0 refl)
]

-- ---- hulls

pub keeps_push : (hull : Hull) (rows : List (List Interval)) → KeepsWords hull.push rows → (kind : ProcedureKind) → KeepsWords (rows_of hull kind) (rows_of (record { push = rows; pop = hull.pop }) kind)
keeps_push hull rows keeps procedures.Push = keeps
keeps_push hull rows keeps procedures.Pop = keeps_same hull.pop

pub keeps_pop : (hull : Hull) (rows : List (List Interval)) → KeepsWords hull.pop rows → (kind : ProcedureKind) → KeepsWords (rows_of hull kind) (rows_of (record { push = hull.push; pop = rows }) kind)
keeps_pop hull rows keeps procedures.Push = keeps_same hull.push
keeps_pop hull rows keeps procedures.Pop = keeps
