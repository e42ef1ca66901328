-- Records that are judged by their numbers, and the verdict on all of them.
use Rattle.std.proofs.Common.{◌≡◌, ◌∙◌, ℕ, ◌+◌, ◌-◌, ◌<◌, ◌≤◌, ◌++◌, inl, inr, List, length, Option, None, Some, slice_get, refl, sym, ap, subst, arith}
use Rattle.std.proofs.lemmas.Bool.{cases_lt}
use Rattle.std.proofs.lemmas.Option.{same_Some, slice_get_within}
use Rattle.tso_cert.specs.Lookup.{tree_states}
use Rattle.tso_cert.specs.Trees.{Tree, record_count, records_of}
use Rattle.tso_check.proofs.NumberedLemmas.{at_place}
use Rattle.tso_check.proofs.RisingLemmas.{got_left, got_right}
use Rattle.tso_check.proofs.WalkLemmas.{count_is}
use Rattle.tso_check.specs.Halved.{AreFrom}
use Rattle.tso_check.specs.Spans.{AreHalves, IsSpanJudged, IsWhole, Span, whole_span}
use Rattle.tso_check.specs.Verdicts.{AreJudged, IsTreeFault, of_record}
use Rattle.tso_check.specs.declared.judging.Bad.{Bad}
use Rattle.tso_rec.specs.declared.basis.Basis.{Basis}
use Rattle.tso_judge.specs.Valid.{IsValidTree}
use Rattle.tso_prog.specs.declared.client.Client.{Client}
use Rattle.tso_rec.specs.Records.{states_of}
use Rattle.tso_rec.specs.declared.record.Record.{Record}

-- ---- halves

pub halves_left : (whole left right : Span) (bad : Bad) → AreHalves whole left right → IsSpanJudged left (Some bad) → IsSpanJudged whole (Some bad)
halves_left whole left right bad h judged =
    let f = subst (λ (s : Span). IsSpanJudged s (Some bad)) h.left_is judged in
    let a = f.ends in
    let b = h.ends in
    record { begins = f.begins; ends = omega (arith, a, b); found = f.found; at = f.at; before = f.before; fault = f.fault }

pub halves_right : (whole left right : Span) (found : Option Bad) → AreHalves whole left right → IsSpanJudged left None → IsSpanJudged right found → IsSpanJudged whole found
halves_right whole left right None h one two =
    let a = subst (λ (s : Span). IsSpanJudged s None) h.left_is one in
    let b = subst (λ (s : Span). IsSpanJudged s None) h.right_is two in
    λ k r from to at. elim (cases_lt k h.middle) [
      | inl less ↦ a k r from less at
      | inr ge ↦ b k r ge to at
    ]
halves_right whole left right (Some bad) h one two =
    let a = subst (λ (s : Span). IsSpanJudged s None) h.left_is one in
    let f = subst (λ (s : Span). IsSpanJudged s (Some bad)) h.right_is two in
    let x = f.begins in
    let y = h.begins in
    record {
      begins = omega (arith, x, y);
      ends = f.ends;
      found = f.found;
      at = f.at;
      before = λ k r from to at. elim (cases_lt k h.middle) [
        | inl less ↦ a k r from less at
        | inr ge ↦ f.before k r ge to at
      ];
      fault = f.fault;
    }

-- a part is cut where its left half ends
pub cut : (c : Client) (t : Basis) (all : List Record) (start whole left right n : ℕ) → whole ≡ left + right → n ≡ left
    → AreHalves (record { client = c; basis = t; records = all; from = start; to = start + whole }) (record { client = c; basis = t; records = all; from = start; to = start + left })
    (record { client = c; basis = t; records = all; from = start + n; to = start + n + right })
cut c t all start whole left right n both count =
    let from : start + n ≡ start + left = omega (arith, count) in
    let to : start + n + right ≡ start + whole = omega (arith, count, both) in
    record {
      middle = start + left;
      begins = omega arith;
      ends = omega (arith, both);
      left_is = refl;
      right_is = λ i. record { client = c; basis = t; records = all; from = from i; to = to i };
    }

-- ---- the verdict

pub all_valid : (c : Client) (t : Basis) (tree : Tree) → IsWhole c t tree → IsSpanJudged (whole_span c t tree) None → IsValidTree c t tree
all_valid c t tree whole judged = record {
  ordered = whole.ordered;
  closed = whole.closed;
  initial = whole.initial;
  records = λ k r at. let lt = slice_get_within (records_of tree) k r at in let count = count_is tree in judged k r (omega arith) (omega (arith, lt, count)) at;
}

pub one_bad : (c : Client) (t : Basis) (tree : Tree) (bad : Bad) → IsWhole c t tree → IsSpanJudged (whole_span c t tree) (Some bad) → IsTreeFault c t tree bad.code (Some bad.place)
one_bad c t tree bad whole judged =
    of_record bad.code bad.place whole.ordered whole.closed whole.initial (record { bad = judged.found; at = judged.at; before = λ n r lt at. judged.before n r (omega arith) lt at; fault = judged.fault })

-- ---- from records of a part to their numbers in the whole

-- the record with a number of the whole is that of the part
in_part : (all part : List Record) (start n : ℕ) (r : Record) → AreFrom all start part → start ≤ n → n < start + length part → slice_get all n ≡ Some r → (j : ℕ) × (start + j ≡ n) × (slice_get part j ≡ Some r)
in_part all part start n r from begins ends at =
    let j = n - start in
    let same : start + (n - start) ≡ n = omega (arith, begins) in
    let (x, there) = at_place part (n - start) (omega (arith, begins, ends)) in
    let is : x ≡ r = same_Some x r (sym (from.each (n - start) x there) ∙ ap (slice_get all) same ∙ at) in
    (n - start, same, there ∙ ap Some is)

pub part_judged : (c : Client) (t : Basis) (all part : List Record) (start to : ℕ) (found : Option Bad) → AreFrom all start part → to ≡ start + length part → AreJudged c t (states_of all) part start found
    → IsSpanJudged (record { client = c; basis = t; records = all; from = start; to = to }) found
part_judged c t all part start to None from count valid = λ n r begins ends at.
    let (j, same, there) = in_part all part start n r from begins (omega (arith, ends, count)) at in
    valid j r there
part_judged c t all part start to (Some bad) from count (k, place, first) =
    let within = slice_get_within part k first.bad first.at in
    record {
      begins = omega (arith, place);
      ends = omega (arith, place, within, count);
      found = first.bad;
      at = ap (slice_get all) place ∙ from.each k first.bad first.at;
      before = λ n r begins ends at.
          let (j, same, there) = in_part all part start n r from begins (omega (arith, ends, place, within)) at in
          first.before j r (omega (arith, same, ends, place)) there;
      fault = first.fault;
    }

-- ---- parts of a tree

pub from_left : (all left right : List Record) (start : ℕ) → AreFrom all start (left ++ right) → AreFrom all start left
from_left all left right start from = record { each = λ k r at. from.each k r (got_left left right k r at) }

pub from_right : (all left right : List Record) (start n : ℕ) → n ≡ length left → AreFrom all start (left ++ right) → AreFrom all (start + n) right
from_right all left right start n count from = record {
  each = λ k r at.
      let e : start + n + k ≡ start + (length left + k) = omega (arith, count) in
      ap (slice_get all) e ∙ from.each (length left + k) r (got_right left right k ∙ at);
}

pub from_all : (all : List Record) → AreFrom all 0 all
from_all all = record { each = λ k r at. ap (slice_get all) (let e : 0 + k ≡ k = omega arith in e) ∙ at }

pub whole_judged : (c : Client) (t : Basis) (tree : Tree) (found : Option Bad) → AreJudged c t (tree_states tree) (records_of tree) 0 found → IsSpanJudged (whole_span c t tree) found
whole_judged c t tree found judged = part_judged c t (records_of tree) (records_of tree) 0 (record_count tree) found (from_all (records_of tree)) (let count = count_is tree in omega (arith, count)) judged
