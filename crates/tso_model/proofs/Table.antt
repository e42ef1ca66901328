-- A closed table says what each thread may still read and write.
use Rattle.std.proofs.Common.{◌≡◌, ℕ, zero, suc, ◌+◌, ◌-◌, ◌≤◌, ◌==◌, Bool, false, List, [], ◌∷◌, ◌++◌, ◌⊎◌, inl, inr, length, get_or, set, drop, Some, sym, subst, arith}
use Rattle.std.specs.Prelude.{IsTrue}
use Rattle.std.specs.List.{slice_get}
use Rattle.std.proofs.lemmas.Bool.{cases_eq, cases_lt, or_cases, or_left, or_right, eq-eqb, eqb-true, false≢true}
use Rattle.std.proofs.lemmas.List.{get_or-set_same, set_past, length_push}
use Rattle.std.proofs.Math.Nat.{le_refl, add-zero, add-suc}
use Rattle.std.proofs.lemmas.Option.{none-some, same_Some}
use Rattle.tso_model.specs.Accesses.{Reads, Writes}
use Rattle.tso_model.specs.Measure.{IsSound}
use Rattle.tso_model.specs.Programs.{CallKind, Program, calls_of}
use Rattle.tso_model.specs.Prologue.{next_call}
use Rattle.tso_model.specs.Reasons.{IsFuture}
use Rattle.tso_model.specs.States.{Buffer, Called, Log, Executing, State, CompactThread, begun_by, begun_call, logged}
use Rattle.tso_model.specs.Steps.{Actor, Move, move, perform, step, thread_of}
use Rattle.tso_model.specs.Table.{IsClosedAt, IsTableClosed, Table, buffer_has, future_reads, future_writes, some_call, table_future}
use Rattle.tso_model.proofs.Begin.{call_if_some}
use Rattle.tso_model.proofs.Local.{length_answered}
use Rattle.tso_model.proofs.Moves.{begun_other, move_of, thread_other}
use Rattle.tso_model.proofs.Places.{get_set_same}

-- THE CALLS LEFT

next_call_at : {F : Type 0} (p : Program F) (s : State F) (i : ℕ) (k : CallKind) → next_call p s i ≡ Some k → slice_get (calls_of p i) (begun_by s i) ≡ Some k
next_call_at p s i k e = call_if_some _ _ k e

module _ {F : Type 0} (p : Program F) (mask : F → ℕ → Bool) (place : ℕ) where
  call_at : (calls : List CallKind) (n : ℕ) (k : CallKind) → slice_get calls n ≡ Some k → IsTrue (mask (p.start k) place) → IsTrue (some_call p mask (drop n calls) place)
  call_at [] n k e h = absurd (none-some k e)
  call_at (c ∷ calls) zero k e h = or_left (mask (p.start c) place) (some_call p mask calls place) (rw (same_Some c k e) h)
  call_at (c ∷ calls) (suc n) k e h = call_at calls n k e h

  call_more : (calls : List CallKind) (n : ℕ) → IsTrue (some_call p mask (drop (suc n) calls) place) → IsTrue (some_call p mask (drop n calls) place)
  call_more [] zero h = h
  call_more [] (suc n) h = h
  call_more (c ∷ calls) zero h = or_right (mask (p.start c) place) (some_call p mask calls place) h
  call_more (c ∷ calls) (suc n) h = call_more calls n h

  calls_add : (calls : List CallKind) (n d : ℕ) → IsTrue (some_call p mask (drop (n + d) calls) place) → IsTrue (some_call p mask (drop n calls) place)
  calls_add calls n zero h = rw add-zero at h
  calls_add calls n (suc d) h = calls_add calls n d (call_more calls (n + d) (rw add-suc at h))

  calls_fewer : (calls : List CallKind) (n m : ℕ) → n ≤ m → IsTrue (some_call p mask (drop m calls) place) → IsTrue (some_call p mask (drop n calls) place)
  calls_fewer calls n m l h = let e : m ≡ n + (m - n) = omega arith in calls_add calls n (m - n) (rw (← e) h)

grows_at : (h : List (List Called)) (i : ℕ) (xs : List Called) → length (get_or h i []) ≤ length xs → length (get_or h i []) ≤ length (get_or (set h i xs) i [])
grows_at h i xs l = elim (cases_lt i (length h)) [
  | inl within ↦ rw (get_or-set_same h i xs [] within) l
  | inr past ↦ rw (set_past h i xs past) (le_refl (length (get_or h i [])))
]

begun_grows : {F : Type 0} (s : State F) (i : ℕ) (m : Move F) → begun_by s i ≤ begun_by (perform s i m) i
begun_grows s i m = go m.log
  where
    go : (l : Log) → length (get_or s.history i []) ≤ length (get_or (logged s.history i l) i [])
    go Log.Same = le_refl _
    go (Log.Began k) = grows_at s.history i _ (omega (arith, length_push (get_or s.history i []) (begun_call k s.history)))
    go (Log.Answered a) = grows_at s.history i _ (omega (arith, length_answered a (get_or s.history i [])))

-- THE BUFFER

buffer_push : (b : Buffer) (p v q : ℕ) → IsTrue (buffer_has (b ++ (p, v) ∷ []) q) → IsTrue (buffer_has b q) ⊎ (p ≡ q)
buffer_push [] p v q h = elim (or_cases (p == q) false h) [ inl e ↦ inr (eqb-true p q e) | inr no' ↦ absurd (false≢true no') ]
buffer_push (e ∷ b) p v q h = elim (or_cases (e.0 == q) (buffer_has (b ++ (p, v) ∷ []) q) h) [
  | inl x ↦ inl (or_left (e.0 == q) (buffer_has b q) x)
  | inr x ↦ elim (buffer_push b p v q x) [ inl y ↦ inl (or_right (e.0 == q) (buffer_has b q) y) | inr y ↦ inr y ]
]

-- ONE THREAD'S MOVE

module _ {F : Type 0} (p : Program F) (sound : CallKind → F → Bool) (t : Table F) (closed : IsTableClosed p sound t) (W : State F → Type 0) (frames : (s : State F) (i : ℕ) (th : CompactThread F) (f : F) → W s → slice_get s.threads i ≡ Some th → th.core ≡ Executing f → IsSound sound f) where
  closed_at : (s : State F) (a : Actor) → W s → (th : CompactThread F) (f : F) → slice_get s.threads (thread_of a) ≡ Some th → th.core ≡ Executing f → IsClosedAt t f (p.next f)
  closed_at s a w th f at running = closed f (frames s (thread_of a) th f w at running)

  now_reads : (s : State F) (a : Actor) (m : Move F) (q : ℕ) → W s → move p s a ≡ Some m → Reads m.access q → IsTrue (future_reads p t s (thread_of a) q)
  now_reads s a m q w e x = grind (arith, closed_at s a w, or_left, next_call_at p s)

  now_writes : (s : State F) (a : Actor) (m : Move F) (q : ℕ) → W s → move p s a ≡ Some m → Writes m.access q → IsTrue (future_writes p t s (thread_of a) q)
  now_writes s a m q w e x = grind (arith, closed_at s a w, next_call_at p s, eq-eqb, or_left, or_right)

  own_reads : (s : State F) (a : Actor) (m : Move F) (q : ℕ) → W s → move p s a ≡ Some m → IsTrue (future_reads p t (perform s (thread_of a) m) (thread_of a) q) → IsTrue (future_reads p t s (thread_of a) q)
  own_reads s a m q w e x = let l = begun_grows s (thread_of a) m in grind (arith, closed_at s a w, next_call_at p s, get_set_same, call_at, calls_fewer, or_left, or_right, or_cases)

  own_writes : (s : State F) (a : Actor) (m : Move F) (q : ℕ) → W s → move p s a ≡ Some m → IsTrue (future_writes p t (perform s (thread_of a) m) (thread_of a) q) → IsTrue (future_writes p t s (thread_of a) q)
  own_writes s a m q w e x = let l = begun_grows s (thread_of a) m in grind (arith, closed_at s a w, next_call_at p s, get_set_same, call_at, calls_fewer, buffer_push, or_left, or_right, or_cases)

  future_shrinks : (test : State F → ℕ → ℕ → Bool) →
      ((s : State F) (a : Actor) (m : Move F) (q : ℕ) → W s → move p s a ≡ Some m → IsTrue (test (perform s (thread_of a) m) (thread_of a) q) → IsTrue (test s (thread_of a) q)) →
      ((s u : State F) (j q : ℕ) → slice_get u.threads j ≡ slice_get s.threads j → begun_by u j ≡ begun_by s j → IsTrue (test u j q) → IsTrue (test s j q)) →
      (s s' : State F) (a : Actor) (j q : ℕ) → W s → step p s a ≡ Some s' → IsTrue (test s' j q) → IsTrue (test s j q)
  future_shrinks test own other s s' a j q w e x =
      let (m, em, is) = move_of p s s' a e in
      let y : IsTrue (test (perform s (thread_of a) m) j q) = subst (λ z. IsTrue (test z j q)) is x in
      elim (cases_eq (thread_of a) j) [
        | inl same ↦ subst (λ i. IsTrue (test s i q)) same (own s a m q w em (subst (λ i. IsTrue (test (perform s (thread_of a) m) i q)) (sym same) y))
        | inr differ ↦ other s (perform s (thread_of a) m) j q (thread_other p s (thread_of a) j m differ) (begun_other p s (thread_of a) j m differ) y
      ]

  pub table_is_future : IsFuture p W (table_future p t)
  table_is_future = record {
    reads_now = now_reads;
    writes_now = now_writes;
    reads_shrink = future_shrinks (future_reads p t) own_reads (λ s u j q e n x. rw (e, n) at x);
    writes_shrink = future_shrinks (future_writes p t) own_writes (λ s u j q e n x. rw (e, n) at x);
  }
