-- What an instruction itself accesses, as a span.
use Rattle.std.proofs.Common.{◌≡◌, ◌∙◌, ℕ, zero, suc, ◌+◌, ◌-◌, ◌≤◌, ◌<◌, ◌⊎◌, inl, inr, Bool, true, false, ◌&&◌, ◌==◌, nat_le, nat_lt, if◌then◌else◌, List, [], ◌∷◌, ◌++◌, length, length-append, get_or, Option, None, Some, slice_get, refl, sym, ap, subst, arith}
use Rattle.std.proofs.lemmas.Bool.{and_parts, eqb-true, leb-true, ltb-true}
use Rattle.std.proofs.lemmas.Option.{get_or_from_slice_get, slice_get-get_or, slice_get_within}
use Rattle.tso_cells.specs.Cells.{cut, greatest_index, index_interval, least_index, operand_cells, size_of}
use Rattle.tso_cells.specs.Inductive.{AreInside}
use Rattle.tso_cells.specs.declared.table.Cells.{Cells}
use Rattle.tso_cells.specs.Intervals.{IsInside}
use Rattle.tso_cells.specs.declared.interval.Interval.{Interval}
use Rattle.tso_line.specs.declared.instruction.Address.{Address}
use Rattle.tso_line.specs.declared.instruction.Instruction.{Instruction}
use Rattle.tso_line.specs.declared.instruction.Instruction.TheVariants as the
use Rattle.tso_prog.specs.declared.client.Array.{Array}
use Rattle.tso_machine.proofs.CallLists.{none_past}
use Rattle.tso_cells.proofs.ListLemmas.{push_cases}
use Rattle.tso_cells.specs.Columns.{AreOwnSpans, IsColumn, own_array, own_cells, own_span, whole_of, whole_of_size}
use Rattle.tso_cells.specs.Growing.{empty}
use Rattle.tso_cells.specs.Spans.{AllHandBack, AreSpans, AreTaken, IsSpan}
use Rattle.tso_cells.specs.declared.access.Access.{Access}
use Rattle.tso_cells.specs.declared.access.Access.TheVariants.{Read, Write}

-- ---- own cells

-- one list of cells inside its array
pub record IsOne (array size : ℕ) (cells : List Cells) : Type 0 where
  pub cell : Cells
  pub is : cells ≡ cell ∷ []
  pub of : cell.array ≡ array
  pub some : cell.lo ≤ cell.hi
  pub inside : cell.hi < size

-- one cell or none, by a test
by_test : (array size : ℕ) (cell : Cells) (b : Bool) → (b ≡ true → (cell.array ≡ array) × (cell.lo ≤ cell.hi) × (cell.hi < size)) → ((if b then cell ∷ [] else []) ≡ []) ⊎ IsOne array size (if b then cell ∷ [] else [])
by_test array size cell false known = inl refl
by_test array size cell true known = let p = known refl in inr (record { cell = cell; is = refl; of = p.0; some = p.1; inside = p.2 })

cut_is : (array size lo : ℕ) (hi : Option ℕ) → (cut array size lo hi ≡ []) ⊎ IsOne array size (cut array size lo hi)
cut_is array size lo None = inl refl
cut_is array size lo (Some hi) =
    let cell : Cells = record { array = array; lo = lo; hi = if nat_lt hi size then hi else size - 1 } in
    by_test array size cell (nat_lt lo size && nat_le lo hi) (λ e.
    let p = and_parts (nat_lt lo size) (nat_le lo hi) e in
    let q = ends (nat_lt hi size) refl (ltb-true lo size p.0) (leb-true lo hi p.1) in
    (refl, q.0, q.1))
  where
    ends : (b : Bool) → nat_lt hi size ≡ b → lo < size → lo ≤ hi → (lo ≤ (if b then hi else size - 1)) × ((if b then hi else size - 1) < size)
    ends true e lt le = let top = ltb-true hi size e in (le, top)
    ends false e lt le = (omega (arith, lt), omega (arith, lt))

-- the cells that an instruction itself accesses, if it accesses some
pub record IsOwn (access : Access) (arrays : List Array) (row : List Interval) (step : Instruction ℕ ℕ) : Type 0 where
  pub cell : Cells
  pub is : own_cells access arrays row step ≡ cell ∷ []
  pub named : own_array access step ≡ Some cell.array
  pub some : cell.lo ≤ cell.hi
  pub inside : cell.hi < size_of (slice_get arrays cell.array)

operand_is : (arrays : List Array) (row : List Interval) (a : Address ℕ) → (operand_cells arrays row a ≡ []) ⊎ IsOne a.array (size_of (slice_get arrays a.array)) (operand_cells arrays row a)
operand_is arrays row a = cut_is a.array (size_of (slice_get arrays a.array)) (least_index (index_interval row a.index).lo a.offset) (greatest_index (index_interval row a.index).hi a.offset)

own_by : (access : Access) (arrays : List Array) (row : List Interval) (step : Instruction ℕ ℕ) (a : Address ℕ) → own_cells access arrays row step ≡ operand_cells arrays row a → own_array access step ≡ Some a.array
    → (own_cells access arrays row step ≡ []) ⊎ IsOwn access arrays row step
own_by access arrays row step a cells array = elim (operand_is arrays row a) [
  | inl none ↦ inl (cells ∙ none)
  | inr one ↦ inr (record {
    cell = one.cell;
    is = cells ∙ one.is;
    named = array ∙ ap Some (sym one.of);
    some = one.some;
    inside = subst (λ n. one.cell.hi < size_of (slice_get arrays n)) (sym one.of) one.inside;
  })
]

pub own_is : (access : Access) (arrays : List Array) (row : List Interval) (step : Instruction ℕ ℕ) → (own_cells access arrays row step ≡ []) ⊎ IsOwn access arrays row step
own_is Read arrays row (the.Load to from) = own_by Read arrays row (the.Load to from) from refl refl
own_is Read arrays row (the.Locked operation cell register) = own_by Read arrays row (the.Locked operation cell register) cell refl refl
own_is Read arrays row _ = inl refl
own_is Write arrays row (the.Store to from) = own_by Write arrays row (the.Store to from) to refl refl
own_is Write arrays row (the.Locked operation cell register) = own_by Write arrays row (the.Locked operation cell register) cell refl refl
own_is Write arrays row _ = inl refl

-- ---- as spans

pub inside_whole : (size : ℕ) (s : Interval) → s.hi < size → IsInside s (whole_of_size size)
inside_whole zero s lt = absurd (omega (arith, lt))
inside_whole (suc n) s lt = (omega arith, omega (arith, lt))

pub whole_bounds : (size : ℕ) (s : Interval) → s.lo ≤ s.hi → IsInside s (whole_of_size size) → s.hi < size
whole_bounds zero s le p = let low = p.0 in let high = p.1 in absurd (omega (arith, le, low, high))
whole_bounds (suc n) s le p = let high = p.1 in omega (arith, high)

pub own_is_span : (access : Access) (arrays : List Array) (row : List Interval) (step : Instruction ℕ ℕ) (a : ℕ) (needed : Bool) → (own_array access step ≡ Some a → needed ≡ true)
    → IsSpan (whole_of arrays a) needed (own_span (own_cells access arrays row step) a)
own_is_span access arrays row step a needed names = elim (own_is access arrays row step) [
  | inl none ↦ let Q : List Cells → Type 0 = λ cells. IsSpan (whole_of arrays a) needed (own_span cells a) in subst Q (sym none) (inl refl)
  | inr own ↦ let Q : List Cells → Type 0 = λ cells. IsSpan (whole_of arrays a) needed (own_span cells a) in subst Q (sym own.is) (of own (own.cell.array == a) refl)
]
  where
    of : (own : IsOwn access arrays row step) (b : Bool) → (own.cell.array == a) ≡ b → IsSpan (whole_of arrays a) needed (if b then record { lo = own.cell.lo; hi = own.cell.hi } else empty)
    of own false e = inl refl
    of own true e =
        let same : own.cell.array ≡ a = eqb-true own.cell.array a e in
        let inside : own.cell.hi < size_of (slice_get arrays a) = subst (λ n. own.cell.hi < size_of (slice_get arrays n)) same own.inside in
        inr (own.some, inside_whole (size_of (slice_get arrays a)) (record { lo = own.cell.lo; hi = own.cell.hi }) inside, names (own.named ∙ ap Some same))

-- ---- columns on the way

abbrev pub AreFirstOwn : Access → List Array → List (Instruction ℕ ℕ) → List (List Interval) → ℕ → List Interval → Type 0
AreFirstOwn access arrays steps rows array spans =
    (n : ℕ) (step : Instruction ℕ ℕ) (row : List Interval) (s : Interval) → slice_get steps n ≡ Some step → slice_get rows n ≡ Some row → slice_get spans n ≡ Some s → s ≡ own_span (own_cells access arrays row step) array

-- one span more
pub pushed_spans : (access : Access) (arrays : List Array) (steps : List (Instruction ℕ ℕ)) (rows : List (List Interval)) (array : ℕ) (spans : List Interval) (i : ℕ) (s : Interval) (d : Instruction ℕ ℕ) (e : List Interval)
    → length spans ≡ i → AreFirstOwn access arrays steps rows array spans → s ≡ own_span (own_cells access arrays (get_or rows i e) (get_or steps i d)) array
    → record { count : length (spans ++ s ∷ []) ≡ i + 1; each : AreFirstOwn access arrays steps rows array (spans ++ s ∷ []) }
pushed_spans access arrays steps rows array spans i s d e size known new = record {
  count = let l = length-append spans (s ∷ []) in omega (arith, l, size);
  each = λ n step row t at there is. elim (push_cases spans n s t is) [
    | inl last ↦
        let here : n ≡ i = last.0 ∙ size in
        let one : get_or steps i d ≡ step = get_or_from_slice_get steps i step d (subst (λ m. slice_get steps m ≡ Some step) here at) in
        let two : get_or rows i e ≡ row = get_or_from_slice_get rows i row e (subst (λ m. slice_get rows m ≡ Some row) here there) in
        last.1 ∙ (new ∙ (ap (λ (x : List Interval). own_span (own_cells access arrays x (get_or steps i d)) array) two ∙ ap (λ (x : Instruction ℕ ℕ). own_span (own_cells access arrays row x) array) one))
    | inr was ↦ known n step row t at there was
  ];
}

-- own spans are spans of the array, where what is needed has the own arrays
pub own_spans_are : (access : Access) (arrays : List Array) (steps : List (Instruction ℕ ℕ)) (rows : List (List Interval)) (array : ℕ) (spans : List Interval) (needs : ℕ → Bool) → length rows ≡ length steps
    → AreOwnSpans access arrays steps rows array spans → ((i : ℕ) (step : Instruction ℕ ℕ) → slice_get steps i ≡ Some step → own_array access step ≡ Some array → needs i ≡ true) → AreSpans (whole_of arrays array) needs spans
own_spans_are access arrays steps rows array spans needs same own names n s is =
    let lt = slice_get_within spans n s is in
    let size = own.count in
    let inside : n < length steps = omega (arith, lt, size) in
    here (slice_get steps n) refl (slice_get rows n) refl inside
  where
    here : (o : Option (Instruction ℕ ℕ)) → slice_get steps n ≡ o → (p : Option (List Interval)) → slice_get rows n ≡ p → n < length steps → IsSpan (whole_of arrays array) (needs n) s
    here None at p there inside = let past = none_past steps n at in absurd (omega (arith, past, inside))
    here (Some step) at None there inside = let past = none_past rows n there in absurd (omega (arith, past, same, inside))
    here (Some step) at (Some row) there inside =
        subst (λ (x : Interval). IsSpan (whole_of arrays array) (needs n) x) (sym (own.each n step row s at there is)) (own_is_span access arrays row step array (needs n) (names n step at))

-- a column that is settled
pub column_is : (access : Access) (arrays : List Array) (steps : List (Instruction ℕ ℕ)) (rows : List (List Interval)) (array : ℕ) (first last : List Interval) → length rows ≡ length steps
    → AreOwnSpans access arrays steps rows array first → length last ≡ length first → AreInside first last → AreTaken steps last (length steps)
    → ((needs : ℕ → Bool) → AllHandBack steps needs → AreSpans (whole_of arrays array) needs first → AreSpans (whole_of arrays array) needs last) → IsColumn access arrays steps rows array last
column_is access arrays steps rows array first last same own count keeps taken spans = record {
  count = count ∙ own.count;
  owns = λ i step row s at there is.
      let lt = slice_get_within last i s is in
      let t = get_or first i empty in
      let was : slice_get first i ≡ Some t = slice_get-get_or first i empty (omega (arith, lt, count)) in
      subst (λ (x : Interval). IsInside x s) (own.each i step row t at there was) (keeps i t s was is);
  taken = taken;
  needed = λ needs is. spans (λ i. needs i array) (λ i step at j goes lt h. is.successors i j array step at goes lt h)
      (own_spans_are access arrays steps rows array first (λ i. needs i array) same own (λ i step at e. is.own_is i array step at e));
}

-- one column more
pub pushed_columns : (access : Access) (arrays : List Array) (steps : List (Instruction ℕ ℕ)) (rows columns : List (List Interval)) (a : ℕ) (spans : List Interval) → length columns ≡ a
    → ((n : ℕ) (x : List Interval) → slice_get columns n ≡ Some x → IsColumn access arrays steps rows n x) → IsColumn access arrays steps rows a spans
    → record { count : length (columns ++ spans ∷ []) ≡ a + 1; each : (n : ℕ) (x : List Interval) → slice_get (columns ++ spans ∷ []) n ≡ Some x → IsColumn access arrays steps rows n x }
pushed_columns access arrays steps rows columns a spans size known new = record {
  count = let l = length-append columns (spans ∷ []) in omega (arith, l, size);
  each = λ n x is. elim (push_cases columns n spans x is) [
    | inl last ↦ let Q : ℕ → List Interval → Type 0 = λ m y. IsColumn access arrays steps rows m y in subst (λ (y : List Interval). Q n y) (sym last.1) (subst (λ m. Q m spans) (sym (last.0 ∙ size)) new)
    | inr was ↦ known n x was
  ];
}
