-- What each call of one thread makes, and how the slots change.
use Rattle.std.proofs.Common.{◌≡◌, ◌∙◌, ℕ, zero, suc, ◌+◌, ◌≤◌, ◌++◌, ◌∷◌, true, false, List, [], length, length-append, Option, Some, None, position, slice_get, refl, sym, ap, arith}
use Rattle.std.specs.Prelude.{slice_set}
use Rattle.std.specs.List.{fold}
use Rattle.std.proofs.lemmas.List.Sums.{fold-append, sum_by-set, sum_by_more_le}
use Rattle.std.proofs.lemmas.Option.{get_or_from_slice_get, none-some, slice_get_within}
use Rattle.std.specs.Prelude.{slice_index_or}
use Rattle.tso_parts.proofs.Finding.{found_at}
use Rattle.tso_parts.specs.Numbers.{IsNowhere, IsNumbered}
use Rattle.tso_state.specs.declared.state.State.{State}
use Rattle.tso_table.proofs.StateLemmas.{none_by, some_by, state_exact}
use Rattle.tso_table.specs.OneThread.{Call, Makes, Replays, Reply, Rows, advance, are_there, claim, claim_at, filed, finish, finish_at, intern, intern_at, is_same, is_this, logged, no_rows, placed, taken, with_slot}
use Rattle.tso_table.specs.Sheets.{one_if_open, open_count}
use Rattle.tso_table.specs.declared.slot.Filed.{Filed}
use Rattle.tso_table.specs.declared.slot.Near.{Near}
use Rattle.tso_table.specs.declared.slot.Slot.{Slot}
use Rattle.tso_table.specs.declared.slot.Slot.TheVariants.{Waiting, Claimed, Done}

-- ---- calls

-- the calls so far and one more
pub replays_on : (r u : Rows) (n : ℕ) (c : Call) (e : Reply) → Replays r n → Makes r c u e → Replays u (n + 1)
replays_on r u n c e h made = record {
  calls = h.calls ++ c ∷ [];
  log = h.log ++ e ∷ [];
  replayed = fold-append advance (Some (no_rows, [])) h.calls (c ∷ []) ∙ ap (λ o. advance o c) h.replayed ∙ ap (logged h.log) made;
  counted = omega (arith, length-append h.log (e ∷ []), h.counted);
}

pub no_calls : Replays no_rows 0
no_calls = record { calls = []; log = []; replayed = refl; counted = refl }

pub makes_old : (r : Rows) (s : State) (n : ℕ) → IsNumbered r.states → slice_get r.states n ≡ Some s → Makes r (intern s) r (placed n false)
makes_old r s n one at = ap (intern_at r s) (some_by r.states s n (position (is_same s) r.states) (found_at is_same state_exact r.states s (position (is_same s) r.states) refl) one at)

pub makes_new : (r : Rows) (s : State) → IsNowhere r.states s → Makes r (intern s) (record { states = r.states ++ s ∷ []; slots = r.slots ++ Waiting ∷ [] }) (placed (length r.states) true)
makes_new r s absent = ap (intern_at r s) (none_by r.states s (position (is_same s) r.states) (found_at is_same state_exact r.states s (position (is_same s) r.states) refl) absent)

pub makes_claim_no : (r : Rows) (n : ℕ) → (slice_get r.slots n ≡ Some Waiting → ⊥) → Makes r (claim n) r (taken false)
makes_claim_no r n not_so = by (slice_get r.slots n) not_so
  where
    by : (o : Option Slot) → (o ≡ Some Waiting → ⊥) → claim_at r n o ≡ Some (r, taken false)
    by None h = refl
    by (Some Waiting) h = absurd (h refl)
    by (Some Claimed) h = refl
    by (Some (Done f)) h = refl

pub makes_finish : (r : Rows) (n : ℕ) (s : State) (f : Filed) (near : List Near) → slice_get r.slots n ≡ Some Claimed → is_this s (slice_get r.states n) ≡ true → are_there r.states near ≡ true → Makes r (finish n s f near) (with_slot r n (Done f)) filed
makes_finish r n s f near at this there = ap (finish_at r n s f near) at ∙ (rw (this, there) refl)

-- ---- slots

-- an item of a list of which one item was replaced
pub of_replaced : {X : Type 0} (xs : List X) (i : ℕ) (y : X) (m : ℕ) (z : X) {C : Type 0} → slice_get (slice_set xs i y) m ≡ Some z → (m ≡ i → y ≡ z → C) → (slice_get xs m ≡ Some z → C) → C
of_replaced [] i y m z e this other = absurd (none-some z e)
of_replaced (x ∷ xs) zero y zero z e this other = this refl (let h : Some y ≡ Some z = e in let g : y ≡ z = cc in g)
of_replaced (x ∷ xs) zero y (suc m) z e this other = other e
of_replaced (x ∷ xs) (suc i) y zero z e this other = other e
of_replaced (x ∷ xs) (suc i) y (suc m) z e this other = of_replaced xs i y m z e (λ h. this (ap suc h)) other

count_from : (xs : List Slot) (a : ℕ) → fold (λ n x. n + one_if_open x) a xs ≤ a + length xs
count_from [] a = omega arith
count_from (Waiting ∷ xs) a = let h = count_from xs (a + 1) in omega (arith, h)
count_from (Claimed ∷ xs) a = let h = count_from xs (a + 1) in omega (arith, h)
count_from (Done f ∷ xs) a = let h = count_from xs (a + 0) in omega (arith, h)

pub open_within : (xs : List Slot) → open_count xs ≤ length xs
open_within xs = let h = count_from xs 0 in omega (arith, h)

pub open_pushed : (xs : List Slot) (x : Slot) → open_count (xs ++ x ∷ []) ≡ open_count xs + one_if_open x
open_pushed xs x = fold-append (λ n x. n + one_if_open x) 0 xs (x ∷ [])

pub open_set : (xs : List Slot) (i : ℕ) (x y : Slot) → slice_get xs i ≡ Some x → open_count (slice_set xs i y) + one_if_open x ≡ open_count xs + one_if_open y
open_set xs i x y at =
    let e = sum_by-set one_if_open xs i y x (slice_get_within xs i x at) in
    ap (λ (z : Slot). open_count (slice_set xs i y) + one_if_open z) (sym (get_or_from_slice_get xs i x x at)) ∙ e

pub open_at : (xs : List Slot) (i : ℕ) → slice_get xs i ≡ Some Claimed → 1 ≤ open_count xs
open_at xs i at =
    let h = sum_by_more_le one_if_open xs i Claimed (slice_get_within xs i Claimed at) in
    let e : one_if_open (slice_index_or xs i Claimed) ≡ 1 = ap one_if_open (get_or_from_slice_get xs i Claimed Claimed at) in
    omega (arith, h, e)
