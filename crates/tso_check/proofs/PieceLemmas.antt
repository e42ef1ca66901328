-- Pieces of a certificate, and what is found in all of them.
use Rattle.std.proofs.Common.{◌≡◌, ◌∙◌, ℕ, zero, suc, ◌+◌, ◌-◌, ◌<◌, ◌≤◌, ◌++◌, inl, inr, List, [], ◌∷◌, length, map, None, Some, slice_get, refl, sym, ap, append_assoc, subst, arith}
use Rattle.std.proofs.lemmas.Bool.{cases_lt}
use Rattle.std.proofs.lemmas.List.{map-append}
use Rattle.std.proofs.lemmas.List.Elements.{All-append}
use Rattle.std.proofs.lemmas.Option.{same_Some, slice_get-map, slice_get_within}
use Rattle.std.specs.Prelude.{All, IfOk, option_map}
use Rattle.tso_check.proofs.NumberedLemmas.{at_place}
use Rattle.tso_check.proofs.RisingLemmas.{got_left, got_right}
use Rattle.tso_check.proofs.SpanLemmas.{halves_left, halves_right}
use Rattle.tso_check.specs.Pieces.{AreAllOf, AreJudgedIn, IsBadFirst, IsCutInto}
use Rattle.tso_check.specs.Spans.{AreHalves, IsSpanJudged, Span}
use Rattle.tso_check.specs.declared.judging.Bad.{Bad}
use Rattle.tso_check.specs.declared.threads.Judged.{Judged}

-- the only one
only : {X : Type 0} (x y : X) (k : ℕ) → slice_get (x ∷ []) k ≡ Some y → y ≡ x
only x y zero e = same_Some y x (sym e)
only {X} x y (suc k) e = absurd (let n : None ≡ Some y = e in cc)

pub one_piece : (s : Span) → AreAllOf s (s ∷ [])
one_piece s None all = all 0 s refl
one_piece s (Some bad) first = subst (λ t. IsSpanJudged t (Some bad)) (only s first.span first.place first.at) first.is

-- of two lists, one behind the other
from_left : {X : Type 0} (xs ys : List X) (k : ℕ) (x : X) → k < length xs → slice_get (xs ++ ys) k ≡ Some x → slice_get xs k ≡ Some x
from_left xs ys k x less at =
    let (y, there) = at_place xs k less in
    there ∙ ap Some (same_Some y x (sym (got_left xs ys k y there) ∙ at))

from_right : {X : Type 0} (xs ys : List X) (k : ℕ) (x : X) → length xs ≤ k → slice_get (xs ++ ys) k ≡ Some x → slice_get ys (k - length xs) ≡ Some x
from_right xs ys k x most at =
    let e : length xs + (k - length xs) ≡ k = omega (arith, most) in
    sym (got_right xs ys (k - length xs)) ∙ ap (slice_get (xs ++ ys)) e ∙ at

module _ (whole left right : Span) (ls rs : List Span) (halves : AreHalves whole left right) (one : AreAllOf left ls) (two : AreAllOf right rs) where
  bad_left : (bad : Bad) (first : IsBadFirst (ls ++ rs) bad) → first.place < length ls → IsSpanJudged whole (Some bad)
  bad_left bad first less =
      halves_left whole left right bad halves (one (Some bad) (record {
        place = first.place;
        span = first.span;
        at = from_left ls rs first.place first.span less first.at;
        is = first.is;
        before = λ k s lt at. first.before k s lt (got_left ls rs k s at);
      }))

  bad_right : (bad : Bad) (first : IsBadFirst (ls ++ rs) bad) → length ls ≤ first.place → IsSpanJudged whole (Some bad)
  bad_right bad first most =
      halves_right whole left right (Some bad) halves
      (one None (λ k s at. let less = slice_get_within ls k s at in first.before k s (omega (arith, less, most)) (got_left ls rs k s at)))
      (two (Some bad) (record {
        place = first.place - length ls;
        span = first.span;
        at = from_right ls rs first.place first.span most first.at;
        is = first.is;
        before = λ k s lt at. first.before (length ls + k) s (omega (arith, lt, most)) (got_right ls rs k ∙ at);
      }))

  pub two_pieces : AreAllOf whole (ls ++ rs)
  two_pieces None all = halves_right whole left right None halves (one None (λ k s at. all k s (got_left ls rs k s at))) (two None (λ k s at. all (length ls + k) s (got_right ls rs k ∙ at)))
  two_pieces (Some bad) first = elim (cases_lt first.place (length ls)) [
    | inl less ↦ bad_left bad first less
    | inr ge ↦ bad_right bad first ge
  ]

-- ---- parts that are cut

module _ {X : Type 0} (span : X → Span) (is_ready : X → Type 0) where
  one_ready : (part : X) → is_ready part → All is_ready (part ∷ [])
  one_ready part ready zero d less = ready
  one_ready part ready (suc k) d less = absurd (omega (arith, less))

  pub not_cut : (part : X) (old new : List X) → is_ready part → new ≡ old ++ part ∷ [] → IsCutInto span is_ready part old new
  not_cut part old new ready is = record {
    pieces = part ∷ [];
    is = is;
    all = one_piece (span part);
    ready = one_ready part ready;
  }

  pub cut_twice : (part left right : X) (old mid new : List X) → AreHalves (span part) (span left) (span right) → IsCutInto span is_ready left old mid → IsCutInto span is_ready right mid new → IsCutInto span is_ready part old new
  cut_twice part left right old mid new halves one two = record {
    pieces = one.pieces ++ two.pieces;
    is = two.is ∙ ap (λ l. l ++ two.pieces) one.is ∙ append_assoc old one.pieces two.pieces;
    all = subst (AreAllOf (span part)) (sym (map-append span one.pieces two.pieces)) (two_pieces (span part) (span left) (span right) (map span one.pieces) (map span two.pieces) halves one.all two.all);
    ready = All-append is_ready one.pieces two.pieces one.ready two.ready;
  }

-- what is found in a piece, where nothing was in those before
pub bad_at : (spans : List Span) (n : ℕ) (bad : Bad) → n < length spans → ((k : ℕ) (s : Span) → k < n → slice_get spans k ≡ Some s → IsSpanJudged s None) → ((s : Span) → slice_get spans n ≡ Some s → IsSpanJudged s (Some bad)) → IsBadFirst spans bad
bad_at spans n bad less before is =
    let (s, at) = at_place spans n less in
    record { place = n; span = s; at = at; is = is s at; before = before }

-- nothing is found up to the next piece
pub none_more : (spans : List Span) (n : ℕ) → ((k : ℕ) (s : Span) → k < n → slice_get spans k ≡ Some s → IsSpanJudged s None) → ((s : Span) → slice_get spans n ≡ Some s → IsSpanJudged s None) → (k : ℕ) (s : Span) → k < n + 1 → slice_get spans k ≡ Some s → IsSpanJudged s None
none_more spans n before is k s less at = elim (cases_lt k n) [
  | inl lt ↦ before k s lt at
  | inr ge ↦ let e : n ≡ k = omega (arith, less, ge) in is s (ap (slice_get spans) e ∙ at)
]

-- ---- what threads found

-- the span of a piece
pub span_at : {X : Type 0} (span : X → Span) (pieces : List X) (k : ℕ) (x : X) (s : Span) → slice_get pieces k ≡ Some x → slice_get (map span pieces) k ≡ Some s → span x ≡ s
span_at span pieces k x s at there = same_Some (span x) s (sym (slice_get-map span pieces k ∙ ap (option_map span) at) ∙ there)

pub both_judged : (spans : List Span) (xs ys new : List Judged) → new ≡ xs ++ ys → AreJudgedIn spans xs → AreJudgedIn spans ys → AreJudgedIn spans new
both_judged spans xs ys new is one two =
    subst (AreJudgedIn spans) (sym is) (λ i j s at there. elim (cases_lt i (length xs)) [
      | inl less ↦ one i j s (from_left xs ys i j less at) there
      | inr ge ↦ two (i - length xs) j s (from_right xs ys i j ge at) there
    ])

pub one_judged : (spans : List Span) (j : Judged) → ((s : Span) → slice_get spans j.number ≡ Some s → IfOk j.found (IsSpanJudged s)) → AreJudgedIn spans (j ∷ [])
one_judged spans j is i k s at there =
    let P : Judged → Type 0 = λ x. slice_get spans x.number ≡ Some s → IfOk x.found (IsSpanJudged s) in
    subst P (sym (only j k i at)) (is s) there
