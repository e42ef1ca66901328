-- Histories by the rows of their lists.
use Rattle.std.proofs.Common.{◌≡◌, ℕ, suc, zero, ◌+◌, ◌<◌, ◌≤◌, ◌^◌, Bool, true, false, List, [], ◌∷◌, ◌++◌, length, Option, Some, None, refl, sym, ap, subst, ◌∙◌, append_assoc, arith, drop, get_or, slice_get, inl, inr}
use Rattle.std.proofs.lemmas.List.{append-nil, at_drop_all, at_drop_more}
use Rattle.std.proofs.lemmas.Bool.{cases_lt}
use Rattle.std.proofs.lemmas.Option.{same_Some}
use Rattle.tso_hist.specs.declared.call.Call.{Call}
use Rattle.tso_parts.specs.Numbers.{Extends, grown}
use Rattle.tso_code.specs.Fields.{list_at}
use Rattle.tso_code.specs.States.{call_at}
use Rattle.tso_scan.specs.Scrolls.{IsListReadAs}
use Rattle.tso_scan.specs.Sources.{AreRows, IsHistoryFound, IsHistoryReadAs, IsRowOf}
use Rattle.tso_scan.specs.declared.rows.Row.{Row}
use Rattle.tso_keys.proofs.Rows.{more_numbers, values_is}
use Rattle.tso_keys.specs.Numbers.{AreNumbersOf, before, values_at}

abbrev Lists : Type 0
Lists = List (List Call)

pub rows_still : (old new : Lists) (hs : List Lists) (rs : List Row) → Extends old new → AreRows old hs rs → AreRows new hs rs
rows_still old new hs rs more are = record {
  each = λ n row at.
      let one = are.each n row at in
      record { history = one.history; at = one.at; numbers = more_numbers old new row.numbers one.history more one.numbers };
}

histories_still : (lists : Lists) (old new : List Lists) (rs : List Row) → Extends old new → AreRows lists old rs → AreRows lists new rs
histories_still lists old new rs more are = record {
  each = λ n row at.
      let one = are.each n row at in
      record { history = one.history; at = more n one.history one.at; numbers = one.numbers };
}

at_end : (xs : List Row) (x r : Row) (n : ℕ) → slice_get (xs ++ x ∷ []) n ≡ Some r → length xs ≤ n → (n ≡ length xs) × (x ≡ r)
at_end [] x r zero at le = (refl, same_Some x r at)
at_end [] x r (suc n) at le = absurd cc
at_end (y ∷ ys) x r zero at le = absurd (omega (arith, le))
at_end (y ∷ ys) x r (suc n) at le = let e = at_end ys x r n at (omega (arith, le)) in (ap suc e.0, e.1)

before_end : (xs : List Row) (x r : Row) (n : ℕ) → slice_get (xs ++ x ∷ []) n ≡ Some r → n < length xs → slice_get xs n ≡ Some r
before_end [] x r n at lt = absurd (omega (arith, lt))
before_end (y ∷ ys) x r zero at lt = at
before_end (y ∷ ys) x r (suc n) at lt = before_end ys x r n at (omega (arith, lt))

rows_end : (lists : Lists) (hs : List Lists) (rs : List Row) (row : Row) (n : ℕ) → n ≡ length rs → AreRows lists hs rs → IsRowOf lists hs n row.numbers → AreRows lists hs (rs ++ row ∷ [])
rows_end lists hs rs row n next are one = record {
  each = λ k r at. elim (cases_lt k (length rs)) [
    | inl less ↦ are.each k r (before_end rs row r k at less)
    | inr ge ↦
        let e = at_end rs row r k at ge in
        subst (λ m. IsRowOf lists hs m r.numbers) (next ∙ sym e.0) (subst (λ (q : Row). IsRowOf lists hs n q.numbers) e.1 one)
  ];
}

rows_grown : (lists : Lists) (hs : List Lists) (rs : List Row) (row : Row) (n : ℕ) (b : Bool) → n ≡ length rs → AreRows lists hs rs → IsRowOf lists hs n row.numbers → AreRows lists hs (grown rs row b)
rows_grown lists hs rs row n true next are one = rows_end lists hs rs row n next are one
rows_grown lists hs rs row n false next are one = are

-- one more row, of the history with the next number
pub row_added : (lists : Lists) (old new : List Lists) (rs after : List Row) (row : Row) (n : ℕ) (b : Bool) (history made : Lists) → length lists < 2 ^ 32 → AreRows lists old rs → AreNumbersOf lists row.numbers history → Extends old new
    → made ≡ values_at lists row.numbers → slice_get new n ≡ Some made → n ≡ length rs → after ≡ grown rs row b → IsHistoryFound lists old new after row n
row_added lists old new rs after row n b history made small are there more is at next e =
    let same : made ≡ history = is ∙ values_is lists row.numbers history small there in
    let one : IsRowOf lists new n row.numbers = record { history = history; at = at ∙ ap Some same; numbers = there } in
    record { rows = subst (AreRows lists new) (sym e) (rows_grown lists new rs row n b next (histories_still lists old new rs more are) one); extends = more; found = one }

-- the history of a row is the list that was read
pub history_read : (lists : Lists) (old new : List Lists) (rs : List Row) (row : Row) (many n : ℕ) (bytes rest : List ℕ) → length lists < 2 ^ 32 → IsListReadAs (list_at call_at) lists many row bytes rest → IsHistoryFound lists old new rs row n
    → IsHistoryReadAs lists old new rs many n bytes rest
history_read lists old new rs row many n bytes rest small read found =
    let same : read.parts ≡ found.found.history = sym (values_is lists row.numbers read.parts small read.numbers) ∙ values_is lists row.numbers found.found.history small found.found.numbers in
    record { rows = found.rows; extends = found.extends; history = read.parts; count = read.count; at = found.found.at ∙ ap Some (sym same); reads = read.reads }

-- ---- copies of lists

-- one more copy
pub copied_more : (lists : Lists) (ns : List ℕ) (copies total : Lists) (i : ℕ) (list : List Call) → i < length ns → Some list ≡ slice_get lists (get_or ns i 0) → copies ++ values_at lists (drop i ns) ≡ total
    → (copies ++ list ∷ []) ++ values_at lists (drop (i + 1) ns) ≡ total
copied_more lists ns copies total i list lt at so_far =
    let front : values_at lists (drop i ns) ≡ list ∷ values_at lists (drop (i + 1) ns) =
    at_drop_more (values_at lists) ns i 0 lt ∙ ap (λ (o : Option (List Call)). before o (values_at lists (drop (i + 1) ns))) (sym at) in
    append_assoc copies (list ∷ []) (values_at lists (drop (i + 1) ns)) ∙ ap (λ (l : Lists). copies ++ l) (sym front) ∙ so_far

-- behind the last number there is nothing to copy
pub copied_end : (lists : Lists) (ns : List ℕ) (copies total : Lists) (i : ℕ) → i < length ns → None ≡ slice_get lists (get_or ns i 0) → copies ++ values_at lists (drop i ns) ≡ total → copies ≡ total
copied_end lists ns copies total i lt none so_far =
    let front : values_at lists (drop i ns) ≡ [] = at_drop_more (values_at lists) ns i 0 lt ∙ ap (λ (o : Option (List Call)). before o (values_at lists (drop (i + 1) ns))) (sym none) in
    sym (append-nil copies) ∙ ap (λ (l : Lists). copies ++ l) (sym front) ∙ so_far

pub copied_all : (lists : Lists) (ns : List ℕ) (copies total : Lists) (i : ℕ) → length ns ≤ i → copies ++ values_at lists (drop i ns) ≡ total → copies ≡ total
copied_all lists ns copies total i le so_far = sym (append-nil copies) ∙ ap (λ (l : Lists). copies ++ l) (sym (at_drop_all (values_at lists) ns i le)) ∙ so_far
