-- Spans that take up those of successors.
use Rattle.std.proofs.Common.{◌≡◌, ◌∙◌, ℕ, ◌+◌, ◌^◌, ◌≤◌, ◌<◌, inl, inr, Bool, true, false, not, ◌||◌, if◌then◌else◌, List, length, get_or, Option, None, Some, slice_get, refl, sym, ap, subst, arith}
use Rattle.std.specs.Prelude.{slice_set}
use Rattle.std.proofs.lemmas.Bool.{cases_lt, eqb-true, false≢true, not-false}
use Rattle.std.proofs.lemmas.List.{get_or_past}
use Rattle.std.proofs.lemmas.Option.{get_or_from_slice_get, slice_get-get_or}
use Rattle.tso_flow.specs.Paths.{goes_on, is_at, next_of, target_of}
use Rattle.tso_cells.specs.Intervals.{IsInside}
use Rattle.tso_cells.specs.declared.interval.Interval.{Interval}
use Rattle.tso_line.specs.declared.instruction.Instruction.{Instruction}
use Rattle.tso_cells.proofs.Growth.{inside_by, inside_is, joined_inside, joined_right, set_grown, then_grown}
use Rattle.tso_cells.proofs.ListLemmas.{further, set_cases}
use Rattle.tso_cells.proofs.RowLemmas.{goes_at}
use Rattle.tso_cells.specs.Growing.{AreGrown, empty, grown, interval_at, is_inside, joined, taken}
use Rattle.tso_cells.specs.Spans.{AllHandBack, AreSpans, AreTaken, HandsBack, HasTaken, IsSmall, IsSpan, span_if}
use Rattle.tso_cells.specs.declared.growing.Growth.{Growth}
use Rattle.tso_cells.specs.declared.growing.Growth.TheVariants.{Least, Whole}

-- ---- one span

empty_inside : (i : Interval) → i.lo < 2 ^ 64 → IsInside empty i
empty_inside i small = (omega (arith, small), omega arith)

span_inside : (w : Interval) (n : Bool) (s : Interval) → IsSmall w → IsSpan w n s → IsInside s w
span_inside w n s small (inl e) = let p = empty_inside w small.0 in subst (λ (i : Interval). IsInside i w) (sym e) p
span_inside w n s small (inr p) = p.1

span_low : (w : Interval) (n : Bool) (s : Interval) → IsSmall w → IsSpan w n s → s.lo < 2 ^ 64
span_low w n s small (inl e) = let low = ap (λ (i : Interval). i.lo) e in omega (arith, low)
span_low w n s small (inr p) = let le = p.0 in let high = p.1.1 in let top = small.1 in omega (arith, le, high, top)

grown_span : (g : Growth) (w i j : Interval) (n : Bool) → IsSmall w → IsSpan w n i → IsSpan w n j → IsSpan w n (grown g w i j)
grown_span g w i j n small p q = go (is_inside j i) refl
  where
    both : (is_inside j i ≡ false) → IsSpan w n j → IsSpan w n (joined i (taken g w j))
    both other (inl e) =
        let inside : IsInside j i = subst (λ (x : Interval). IsInside x i) (sym e) (empty_inside i (span_low w n i small p)) in
        absurd (false≢true (sym other ∙ inside_is j i inside))
    both other (inr r) = inr (wide, joined_inside i (taken g w j) w (span_inside w n i small p) (within g), r.2)
      where
        within : (g : Growth) → IsInside (taken g w j) w
        within Least = r.1
        within Whole = (omega arith, omega arith)

        some : (g : Growth) → (taken g w j).lo ≤ (taken g w j).hi
        some Least = r.0
        some Whole = let le = r.0 in let low = r.1.0 in let high = r.1.1 in omega (arith, le, low, high)

        wide : (joined i (taken g w j)).lo ≤ (joined i (taken g w j)).hi
        wide = let right = joined_right i (taken g w j) in let low = right.0 in let high = right.1 in let le = some g in omega (arith, low, high, le)

    go : (b : Bool) → is_inside j i ≡ b → IsSpan w n (if b then i else joined i (taken g w j))
    go true e = p
    go false e = both e q

-- ---- spans

pub span_at : (w : Interval) (needs : ℕ → Bool) (spans : List Interval) (i : ℕ) → AreSpans w needs spans → IsSpan w (needs i) (interval_at spans i)
span_at w needs spans i all = elim (cases_lt i (length spans)) [
  | inl lt ↦ all i (interval_at spans i) (slice_get-get_or spans i empty lt)
  | inr ge ↦ inl (get_or_past spans i empty ge)
]

pub set_span : (g : Growth) (w : Interval) (needs : ℕ → Bool) (spans : List Interval) (i : ℕ) (other : Interval) → IsSmall w → IsSpan w (needs i) other → AreSpans w needs spans
    → AreSpans w needs (slice_set spans i (grown g w (interval_at spans i) other))
set_span g w needs spans i other small p all n s at = elim (set_cases spans i n _ s at) [
  | inl same ↦
      let here = grown_span g w (interval_at spans i) other (needs i) small (span_at w needs spans i all) p in
      subst (λ m. IsSpan w (needs m) s) (sym same.0) (subst (λ (x : Interval). IsSpan w (needs i) x) (sym same.1) here)
  | inr was ↦ all n s was.1
]

-- a successor's span is one of the instruction too
pub other_span : (w : Interval) (needs : ℕ → Bool) (spans : List Interval) (step : Instruction ℕ ℕ) (i : ℕ) (o : Option ℕ) → ((j : ℕ) → o ≡ Some j → goes_on step i j ≡ true) → HandsBack step i (length spans) needs
    → AreSpans w needs spans → IsSpan w (needs i) (span_if spans o)
other_span w needs spans step i None goes hands all = inl refl
other_span w needs spans step i (Some j) goes hands all = elim (cases_lt j (length spans)) [
  | inl lt ↦ over (all j (interval_at spans j) (slice_get-get_or spans j empty lt)) lt
  | inr ge ↦ inl (get_or_past spans j empty ge)
]
  where
    over : IsSpan w (needs j) (interval_at spans j) → j < length spans → IsSpan w (needs i) (interval_at spans j)
    over (inl e) lt = inl e
    over (inr p) lt = inr (p.0, p.1, hands j (goes j refl) lt p.2)

pub some_inside : (w : Interval) (spans : List Interval) (o : Option ℕ) → IsSmall w → AreSpans w (λ n. true) spans → IsInside (span_if spans o) w
some_inside w spans None small all = empty_inside w small.0
some_inside w spans (Some j) small all = span_inside w true (interval_at spans j) small (span_at w (λ n. true) spans j all)

-- two spans that are taken up one after the other
pub two_grown : (g : Growth) (w : Interval) (spans mid new : List Interval) (i : ℕ) (next target : Interval) (f r : Bool) → i < length spans → IsInside next w → IsInside target w
    → mid ≡ slice_set spans i (grown g w (interval_at spans i) next) → f ≡ not (is_inside next (interval_at spans i))
    → new ≡ slice_set mid i (grown g w (interval_at mid i) target) → r ≡ not (is_inside target (interval_at mid i)) → AreGrown g w spans new (f || r)
two_grown g w spans mid new i next target f r lt a b m e n h =
    let first : AreGrown g w spans mid f = subst (λ (x : List Interval). AreGrown g w spans x f) (sym m) (set_grown g w spans i next f lt a e) in
    let size = first.count in
    let second : AreGrown g w mid new r = subst (λ (x : List Interval). AreGrown g w mid x r) (sym n) (set_grown g w mid i target r (omega (arith, lt, size)) b h) in
    then_grown g w spans mid new f r first second

pub two_spans : (g : Growth) (w : Interval) (needs : ℕ → Bool) (spans mid new : List Interval) (i : ℕ) (next target : Interval) → IsSmall w → IsSpan w (needs i) next → IsSpan w (needs i) target
    → mid ≡ slice_set spans i (grown g w (interval_at spans i) next) → new ≡ slice_set mid i (grown g w (interval_at mid i) target) → AreSpans w needs spans → AreSpans w needs new
two_spans g w needs spans mid new i next target small a b m n all =
    let first : AreSpans w needs mid = subst (λ (x : List Interval). AreSpans w needs x) (sym m) (set_span g w needs spans i next small a all) in
    subst (λ (x : List Interval). AreSpans w needs x) (sym n) (set_span g w needs mid i target small b first)

at_is : (o : Option ℕ) (j : ℕ) → is_at o j ≡ true → o ≡ Some j
at_is None j h = absurd (false≢true h)
at_is (Some k) j h = ap Some (eqb-true k j h)

-- where a span did not grow, it holds those of the successors
pub taken_still : (step : Instruction ℕ ℕ) (i : ℕ) (spans new : List Interval) → new ≡ spans → IsInside (span_if spans (next_of step i)) (interval_at spans i) → IsInside (span_if spans (target_of step)) (interval_at spans i)
    → HasTaken step i new
taken_still step i spans new same next target j s t goes at is =
    let there : slice_get spans j ≡ Some s = subst (λ (x : List Interval). slice_get x j ≡ Some s) same at in
    let here : interval_at spans i ≡ t = get_or_from_slice_get spans i t empty (subst (λ (x : List Interval). slice_get x i ≡ Some t) same is) in
    let own : interval_at spans j ≡ s = get_or_from_slice_get spans j s empty there in
    let holds : IsInside (interval_at spans j) (interval_at spans i) = elim (goes_at step i j goes) [
      | inl one ↦ subst (λ (o : Option ℕ). IsInside (span_if spans o) (interval_at spans i)) (at_is (next_of step i) j one) next
      | inr other ↦ subst (λ (o : Option ℕ). IsInside (span_if spans o) (interval_at spans i)) (at_is (target_of step) j other) target
    ] in
    subst (λ (x : Interval). IsInside s x) here (subst (λ (x : Interval). IsInside x (interval_at spans i)) own holds)

pub held_by : (other i : Interval) (r : Bool) → r ≡ not (is_inside other i) → r ≡ false → IsInside other i
held_by other i r flag none = inside_by other i (not-false (is_inside other i) (sym flag ∙ none))

-- a span that did not grow is as it was
pub kept : (g : Growth) (w : Interval) (spans new : List Interval) (i : ℕ) (other : Interval) (r : Bool) → i < length spans → IsInside other w → new ≡ slice_set spans i (grown g w (interval_at spans i) other)
    → r ≡ not (is_inside other (interval_at spans i)) → r ≡ false → new ≡ spans
kept g w spans new i other r lt inside set flag none = set ∙ (set_grown g w spans i other r lt inside flag).same none

-- one instruction further
pub taken_on : (steps : List (Instruction ℕ ℕ)) (spans : List Interval) (i : ℕ) (d : Instruction ℕ ℕ) → AreTaken steps spans i → HasTaken (get_or steps i d) i spans → AreTaken steps spans (i + 1)
taken_on steps spans i d = further (λ k step. HasTaken step k spans) steps i d

-- what every instruction hands back
pub hands_at : (steps : List (Instruction ℕ ℕ)) (i : ℕ) (d : Instruction ℕ ℕ) (count : ℕ) (needs : ℕ → Bool) → i < length steps → count ≡ length steps → AllHandBack steps needs → HandsBack (get_or steps i d) i count needs
hands_at steps i d count needs lt same all = subst (λ m. HandsBack (get_or steps i d) i m needs) (sym same) (all i (get_or steps i d) (slice_get-get_or steps i d lt))
