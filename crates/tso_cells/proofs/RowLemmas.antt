-- Rows of intervals that take up what comes to them.
use Rattle.std.proofs.Common.{◌≡◌, ◌∙◌, ℕ, zero, suc, ◌+◌, ◌^◌, ◌≤◌, ◌<◌, ◌⊎◌, inl, inr, Bool, true, false, ◌||◌, ◌&&◌, nat_le, nat_lt, if◌then◌else◌, List, [], ◌∷◌, ◌++◌, length, length-append, length-set, get_or, Option, Some, slice_get, refl, sym, ap, subst, arith}
use Rattle.std.specs.Prelude.{slice_set}
use Rattle.std.specs.List.{list_all}
use Rattle.std.proofs.lemmas.Bool.{and_parts, cases_lt, eq-eqb, eqb-true, false≢true, leb-false, ltb-true, or_cases, or_left, or_right}
use Rattle.std.proofs.lemmas.List.{get_or_past, set-get_or}
use Rattle.std.proofs.lemmas.List.Sums.{sum_by-set}
use Rattle.std.proofs.lemmas.Option.{get_or_from_slice_get, same_Some, slice_get-get_or, slice_get_within}
use Rattle.tso_cells.proofs.TableLemmas.{moved_length}
use Rattle.tso_cells.specs.Inductive.{AreInside, AreIntervals, IsInterval}
use Rattle.tso_flow.specs.Accesses.{register_number}
use Rattle.tso_flow.specs.Paths.{goes_on, is_at, next_of, target_of}
use Rattle.tso_cells.specs.Intervals.{all_words, raised}
use Rattle.tso_cells.specs.Moved.{computed, exchanged, interval_of, moved, put, source_interval}
use Rattle.tso_cells.specs.declared.interval.Interval.{Interval}
use Rattle.tso_line.specs.Proper.{is_in_range, is_word_source}
use Rattle.tso_line.specs.declared.instruction.Instruction.{Instruction}
use Rattle.tso_line.specs.declared.instruction.Instruction.TheVariants as the
use Rattle.tso_line.specs.declared.instruction.Operation.{Operation}
use Rattle.tso_line.specs.declared.instruction.Operation.TheVariants.{Add, Logic, Sub}
use Rattle.tso_line.specs.declared.instruction.Register.{Register}
use Rattle.tso_line.specs.declared.instruction.Source.{Source}
use Rattle.tso_line.specs.declared.instruction.Source.TheVariants as sources
use Rattle.tso_word.specs.declared.BitOperation.TheVariants.{And, Or, Xor}
use Rattle.tso_cells.proofs.Growth.{insides_refl, insides_trans}
use Rattle.tso_cells.proofs.ListLemmas.{further, push_cases, set_cases}
use Rattle.tso_cells.proofs.TakingUp.{set_proper}
use Rattle.tso_cells.specs.Growing.{AreGrown, room}
use Rattle.tso_cells.specs.Rows.{ArePassed, AreRows, AreRowsGrown, AreRowsInside, AreSettled, HasPassed, IsRow, IsRowInside, rows_room}
use Rattle.tso_cells.specs.declared.growing.Growth.{Growth}
use Rattle.tso_cells.specs.declared.growing.Growth.TheVariants.{Whole}

-- ---- one row inside another

pub row_refl : (xs : List Interval) → IsRowInside xs xs
row_refl xs = (refl, insides_refl xs)

pub row_trans : (xs ys zs : List Interval) → IsRowInside xs ys → IsRowInside ys zs → IsRowInside xs zs
row_trans xs ys zs p q = (q.0 ∙ p.0, insides_trans xs ys zs p.0 p.1 q.1)

pub row_as : (xs ys zs : List Interval) → IsRowInside xs ys → ys ≡ zs → IsRowInside xs zs
row_as xs ys zs p e = subst (λ (x : List Interval). IsRowInside xs x) e p

pub rows_refl : (rows : List (List Interval)) → AreRowsInside rows rows
rows_refl rows n xs ys at is = row_as xs xs ys (row_refl xs) (same_Some xs ys (sym at ∙ is))

pub rows_trans : (a b c : List (List Interval)) → length b ≡ length a → AreRowsInside a b → AreRowsInside b c → AreRowsInside a c
rows_trans a b c e p q n xs zs at is =
    let lt = slice_get_within a n xs at in
    let ys = get_or b n [] in
    let there : slice_get b n ≡ Some ys = slice_get-get_or b n [] (omega (arith, lt, e)) in
    row_trans xs ys zs (p n xs ys at there) (q n ys zs there is)

-- a row that is set
pub set_rows_inside : (rows : List (List Interval)) (j : ℕ) (d row : List Interval) → IsRowInside (get_or rows j d) row → AreRowsInside rows (slice_set rows j row)
set_rows_inside rows j d row p n xs ys at is = elim (set_cases rows j n row ys is) [
  | inl same ↦
      let old : get_or rows j d ≡ xs = ap (λ m. get_or rows m d) (sym same.0) ∙ get_or_from_slice_get rows n xs d at in
      row_as xs row ys (subst (λ (x : List Interval). IsRowInside x row) old p) (sym same.1)
  | inr was ↦ row_as xs xs ys (row_refl xs) (same_Some xs ys (sym at ∙ was.1))
]

pub set_rows : (rows : List (List Interval)) (j : ℕ) (row : List Interval) → AreRows rows → IsRow row → AreRows (slice_set rows j row)
set_rows rows j row all p n xs at = elim (set_cases rows j n row xs at) [
  | inl same ↦ subst (λ (x : List Interval). IsRow x) (sym same.1) p
  | inr was ↦ all n xs was.1
]

pub row_grown : (g : Growth) (rows : List (List Interval)) (j : ℕ) (d row : List Interval) (r : Bool) → j < length rows → AreGrown g all_words (get_or rows j d) row r → AreRowsGrown g rows (slice_set rows j row) r
row_grown g rows j d row r lt p = record {
  count = length-set rows j row;
  keeps = set_rows_inside rows j d row (p.count, p.keeps);
  fewer = λ whole more. let falls = p.fewer whole more in let sums = sum_by-set (room all_words) rows j row d lt in omega (arith, falls, sums);
  same = λ none. ap (slice_set rows j) (p.same none) ∙ set-get_or rows j d;
}

pub none_rows_grown : (g : Growth) (rows : List (List Interval)) → AreRowsGrown g rows rows false
none_rows_grown g rows = record { count = refl; keeps = rows_refl rows; fewer = λ whole more. absurd (false≢true more); same = λ none. refl }

-- one change after another
pub then_rows_grown : (g : Growth) (a b c : List (List Interval)) (f r : Bool) → AreRowsGrown g a b f → AreRowsGrown g b c r → AreRowsGrown g a c (f || r)
then_rows_grown g a b c f r p q = record {
  count = q.count ∙ p.count;
  keeps = rows_trans a b c p.count p.keeps q.keeps;
  fewer = λ whole more. fall f r p q whole more;
  same = λ none. rest f r p q none;
}
  where
    fall : (f r : Bool) → AreRowsGrown g a b f → AreRowsGrown g b c r → g ≡ Whole → (f || r) ≡ true → rows_room c < rows_room a
    fall true true p q whole more = let x = p.fewer whole refl in let y = q.fewer whole refl in omega (arith, x, y)
    fall false true p q whole more = let y = q.fewer whole refl in let e = ap rows_room (p.same refl) in omega (arith, y, e)
    fall true false p q whole more = let x = p.fewer whole refl in let e = ap rows_room (q.same refl) in omega (arith, x, e)
    fall false false p q whole more = absurd (false≢true more)

    rest : (f r : Bool) → AreRowsGrown g a b f → AreRowsGrown g b c r → (f || r) ≡ false → c ≡ a
    rest true r p q none = absurd (false≢true (sym none))
    rest false true p q none = absurd (false≢true (sym none))
    rest false false p q none = q.same refl ∙ p.same refl

-- ---- what an instruction makes of a row

raised_proper : (i : Interval) (n : ℕ) → IsInterval i → IsInterval (raised i n)
raised_proper i n p = go (nat_lt (i.lo + n) (2 ^ 64) && nat_lt (i.hi + n) (2 ^ 64)) refl
  where
    go : (b : Bool) → (nat_lt (i.lo + n) (2 ^ 64) && nat_lt (i.hi + n) (2 ^ 64)) ≡ b → IsInterval (if b then record { lo = i.lo + n; hi = i.hi + n } else all_words)
    go true e =
        let le = p.0 in
        let lt = ltb-true (i.hi + n) (2 ^ 64) (and_parts (nat_lt (i.lo + n) (2 ^ 64)) (nat_lt (i.hi + n) (2 ^ 64)) e).1 in
        (omega (arith, le), lt)
    go false e = (omega arith, omega arith)

computed_proper : (operation : Operation) (i : Interval) (s : Source) (j : Interval) → IsInterval i → IsInterval (computed operation i s j)
computed_proper Add i (sources.Register r) j p = (omega arith, omega arith)
computed_proper Add i (sources.Word w) j p = go (nat_lt w (2 ^ 63))
  where
    go : (b : Bool) → IsInterval (if b then raised i w else all_words)
    go true = raised_proper i w p
    go false = (omega arith, omega arith)
computed_proper Sub i s j p = (omega arith, omega arith)
computed_proper (Logic And) i s j p = go (nat_le i.hi j.hi) refl
  where
    go : (b : Bool) → nat_le i.hi j.hi ≡ b → IsInterval (record { lo = 0; hi = if b then i.hi else j.hi })
    go true e = (omega arith, p.1)
    go false e = let lt = leb-false i.hi j.hi e in let small = p.1 in (omega arith, omega (arith, lt, small))
computed_proper (Logic Or) i s j p = (omega arith, omega arith)
computed_proper (Logic Xor) i s j p = (omega arith, omega arith)

of_proper : (xs : List Interval) (r : Register) → AreIntervals xs → IsInterval (interval_of xs r)
of_proper xs r all = elim (cases_lt (register_number r) (length xs)) [
  | inl lt ↦ all (register_number r) (interval_of xs r) (slice_get-get_or xs (register_number r) all_words lt)
  | inr ge ↦ subst (λ (i : Interval). IsInterval i) (sym (get_or_past xs (register_number r) all_words ge)) (omega arith, omega arith)
]

put_proper : (xs : List Interval) (r : Register) (i : Interval) → AreIntervals xs → IsInterval i → AreIntervals (put xs r i)
put_proper xs r i all p = set_proper xs (register_number r) i all p

put_words : (xs : List Interval) (r : Register) → AreIntervals xs → AreIntervals (put xs r all_words)
put_words xs r all = put_proper xs r all_words all (omega arith, omega arith)

source_proper : (xs : List Interval) (from : Source) → is_word_source from ≡ true → AreIntervals xs → IsInterval (source_interval xs from)
source_proper xs (sources.Register r) ok all = of_proper xs r all
source_proper xs (sources.Word w) ok all = let small = ltb-true w (2 ^ 64) ok in (omega arith, omega (arith, small))

moved_proper : (xs : List Interval) (step : Instruction ℕ ℕ) → is_in_range step ≡ true → AreIntervals xs → AreIntervals (moved xs step)
moved_proper xs (the.Move to from) ok all = put_proper xs to (source_interval xs from) all (source_proper xs from ok all)
moved_proper xs (the.Load to from) ok all = put_words xs to all
moved_proper xs (the.Store to from) ok all = all
moved_proper xs (the.Compute operation to from) ok all =
    put_proper xs to (computed operation (interval_of xs to) from (source_interval xs from)) all (computed_proper operation (interval_of xs to) from (source_interval xs from) (of_proper xs to all))
moved_proper xs (the.Compare comparison left right) ok all = all
moved_proper xs (the.Increment r) ok all = put_proper xs r (raised (interval_of xs r) 1) all (raised_proper (interval_of xs r) 1 (of_proper xs r all))
moved_proper xs (the.Decrement r) ok all = put_words xs r all
moved_proper xs (the.Jump when target bound) ok all = all
moved_proper xs (the.Assert condition) ok all = all
moved_proper xs (the.Locked operation cell r) ok all = put_words xs (exchanged operation r) all
moved_proper xs the.Fence ok all = all
moved_proper xs the.Nop ok all = all
moved_proper xs the.Pause ok all = all
moved_proper xs the.Return ok all = all

pub moved_row : (xs : List Interval) (step : Instruction ℕ ℕ) → is_in_range step ≡ true → IsRow xs → IsRow (moved xs step)
moved_row xs step ok p = (moved_length xs step ∙ p.0, moved_proper xs step ok p.1)

-- ---- successors

-- a successor is the next position, or where the instruction can jump to
pub goes_at : (step : Instruction ℕ ℕ) (i j : ℕ) → goes_on step i j ≡ true → (is_at (next_of step i) j ≡ true) ⊎ (is_at (target_of step) j ≡ true)
unfolding goes_on
goes_at step i j h = or_cases (is_at (next_of step i) j) (is_at (target_of step) j) h

pub goes_next : (step : Instruction ℕ ℕ) (i j : ℕ) → next_of step i ≡ Some j → goes_on step i j ≡ true
unfolding goes_on
goes_next step i j e = or_left (is_at (next_of step i) j) (is_at (target_of step) j) (ap (λ o. is_at o j) e ∙ eq-eqb j j refl)

pub goes_target : (step : Instruction ℕ ℕ) (i j : ℕ) → target_of step ≡ Some j → goes_on step i j ≡ true
unfolding goes_on
goes_target step i j e = or_right (is_at (next_of step i) j) (is_at (target_of step) j) (ap (λ o. is_at o j) e ∙ eq-eqb j j refl)

abbrev pub HoldsAt : Option ℕ → List Interval → List (List Interval) → Type 0
HoldsAt position other rows = (j : ℕ) (ys : List Interval) → is_at position j ≡ true → slice_get rows j ≡ Some ys → IsRowInside other ys

pub at_some : (o : Option ℕ) (j k : ℕ) → o ≡ Some j → is_at o k ≡ true → j ≡ k
at_some o j k e at = eqb-true j k (subst (λ (p : Option ℕ). is_at p k ≡ true) e at)

-- a row that is set where a position is holds another one there
pub set_row_holds : (rows : List (List Interval)) (j : ℕ) (row other : List Interval) (o : Option ℕ) → o ≡ Some j → IsRowInside other row → HoldsAt o other (slice_set rows j row)
set_row_holds rows j row other o e p k ys at is = elim (set_cases rows j k row ys is) [
  | inl same ↦ row_as other row ys p (sym same.1)
  | inr was ↦ absurd (was.0 (sym (at_some o j k e at)))
]

-- behind the rows there is none
pub past_holds : (rows : List (List Interval)) (j : ℕ) (other : List Interval) (o : Option ℕ) → o ≡ Some j → length rows ≤ j → HoldsAt o other rows
past_holds rows j other o e past k ys at is = let same = at_some o j k e at in let lt = slice_get_within rows k ys is in absurd (omega (arith, same, lt, past))

-- where no row grew, those of successors hold what the instruction makes of its own
pub passed_still : (step : Instruction ℕ ℕ) (i : ℕ) (d : List Interval) (old mid new : List (List Interval)) → mid ≡ old → new ≡ mid → HoldsAt (next_of step i) (moved (get_or old i d) step) mid
    → HoldsAt (target_of step) (moved (get_or old i d) step) new → HasPassed step i new
passed_still step i d old mid new p q next target j xs ys goes at is =
    let own : get_or old i d ≡ xs = get_or_from_slice_get old i xs d (subst (λ (rows : List (List Interval)). slice_get rows i ≡ Some xs) (q ∙ p) at) in
    let holds : IsRowInside (moved (get_or old i d) step) ys = elim (goes_at step i j goes) [
      | inl one ↦ next j ys one (subst (λ (rows : List (List Interval)). slice_get rows j ≡ Some ys) q is)
      | inr other ↦ target j ys other is
    ] in
    subst (λ (x : List Interval). AreInside (moved x step) ys) own holds.1

-- one instruction further
pub passed_on : (steps : List (Instruction ℕ ℕ)) (rows : List (List Interval)) (i : ℕ) (d : Instruction ℕ ℕ) → ArePassed steps rows i → HasPassed (get_or steps i d) i rows → ArePassed steps rows (i + 1)
passed_on steps rows i d = further (λ k step. HasPassed step k rows) steps i d

-- each instruction of a list is in range
pub range_at : (steps : List (Instruction ℕ ℕ)) (i : ℕ) (d : Instruction ℕ ℕ) → i < length steps → list_all is_in_range steps ≡ true → is_in_range (get_or steps i d) ≡ true
range_at [] i d lt all = absurd (omega (arith, lt))
range_at (s ∷ steps) zero d lt all = (and_parts (is_in_range s) (list_all is_in_range steps) all).0
range_at (s ∷ steps) (suc i) d lt all = range_at steps i d (omega (arith, lt)) (and_parts (is_in_range s) (list_all is_in_range steps) all).1

-- ---- making rows

-- rows that are settled over what was given are so over what is given before
pub settled_before : (steps : List (Instruction ℕ ℕ)) (given a rows : List (List Interval)) (entry : List Interval) → length a ≡ length steps → AreRowsInside given a → AreSettled steps a entry rows → AreSettled steps given entry rows
settled_before steps given a rows entry same inside all = record {
  lengths = all.lengths;
  held = λ n xs zs at is.
      let lt = slice_get_within rows n zs is in
      let e = all.lengths in
      let ys = get_or a n [] in
      let there : slice_get a n ≡ Some ys = slice_get-get_or a n [] (omega (arith, lt, e, same)) in
      row_trans xs ys zs (inside n xs ys at there) (all.held n ys zs there is);
  first = all.first;
  each = all.each;
  passed = all.passed;
}

-- one row more
pub pushed_rows : (given rows : List (List Interval)) (row : List Interval) (i : ℕ) → length rows ≡ i → AreRowsInside given rows → ((xs : List Interval) → slice_get given i ≡ Some xs → row ≡ xs)
    → record { count : length (rows ++ row ∷ []) ≡ i + 1; held : AreRowsInside given (rows ++ row ∷ []) }
pushed_rows given rows row i size held new = record {
  count = let e = length-append rows (row ∷ []) in omega (arith, e, size);
  held = λ n xs ys at is. elim (push_cases rows n row ys is) [
    | inl last ↦ row_as xs xs ys (row_refl xs) (sym (new xs (subst (λ m. slice_get given m ≡ Some xs) (last.0 ∙ size) at)) ∙ sym last.1)
    | inr was ↦ held n xs ys at was
  ];
}

-- the first row takes up the entry, then all rows grow in three steps, and the last is settled
pub settled : (steps : List (Instruction ℕ ℕ)) (given a b c d : List (List Interval)) (entry : List Interval) → length given ≡ length steps → length a ≡ length given → AreRowsInside given a → HoldsAt (Some 0) entry a
    → length b ≡ length a → AreRowsInside a b → length c ≡ length b → AreRowsInside b c → length d ≡ length c → AreRowsInside c d → AreRows d → ArePassed steps d (length steps) → AreSettled steps given entry d
settled steps given a b c d entry same ea ia first eb ib ec ic ed id rows passed =
    let keeps : AreRowsInside a d = rows_trans a c d (ec ∙ eb) (rows_trans a b c eb ib ic) id in
    record {
      lengths = ed ∙ (ec ∙ (eb ∙ (ea ∙ same)));
      held = rows_trans given a d ea ia keeps;
      first = λ xs at.
          let lt = slice_get_within d 0 xs at in
          let ys = get_or a 0 [] in
          let there : slice_get a 0 ≡ Some ys = slice_get-get_or a 0 [] (omega (arith, lt, ed, ec, eb)) in
          row_trans entry ys xs (first 0 ys refl there) (keeps 0 ys xs there at);
      each = rows;
      passed = passed;
    }
