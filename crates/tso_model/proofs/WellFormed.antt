-- Every step leads from a well-formed state to a well-formed one, and the initial state is well-formed.
use Rattle.std.proofs.Common.{◌≡◌, ◌≢◌, ℕ, zero, suc, ◌<◌, Bool, true, false, List, [], ◌∷◌, map, length, get_or, set, Option, Some, None, inl, inr, refl, sym, ◌∙◌, ap, subst, arith}
use Rattle.std.specs.List.{slice_get}
use Rattle.std.specs.Option.{option_and_then}
use Rattle.std.proofs.lemmas.Bool.{cases_eq}
use Rattle.std.proofs.lemmas.List.{length-set, length-map}
use Rattle.std.proofs.lemmas.Option.{none-some, same_Some, slice_get_within}
use Rattle.tso_model.specs.Linear.{call_at}
use Rattle.tso_model.specs.Measure.{IsRanked}
use Rattle.tso_model.specs.Programs.{CallKind, Program}
use Rattle.tso_model.specs.Prologue.{next_call}
use Rattle.tso_model.specs.States.{Began, Buffer, Called, CompactCore, Resting, Executing, State, Halted, CompactThread, calls_in, first_state, logged, returned}
use Rattle.tso_model.specs.Steps.{Actor, Drains, Exec, Move, call_move, core_move, drain_move, move, perform, thread_of, word_read}
use Rattle.tso_model.specs.WellFormed.{AllReturned, CallsFit, HasStarted, IsCallOf, IsInLast, IsWellFormed, Within}
use Rattle.tso_model.proofs.Begin.{call_if_some}
use Rattle.tso_model.proofs.Counts.{all_returned_count, call_after, length_logged, returned_grows}
use Rattle.tso_model.proofs.History.{calls_other}
use Rattle.tso_model.proofs.Memory.{memory_length}
use Rattle.tso_model.proofs.Moves.{begun_other, thread_other}
use Rattle.tso_model.proofs.Ordered.{first_empty, seen_count}
use Rattle.tso_model.proofs.Persistent.{there}
use Rattle.tso_model.proofs.Places.{get_set_other, get_set_same}
use Rattle.tso_model.proofs.Turns.{outcome}
use Rattle.tso_model.proofs.Waits.{begins_after, is_over_at, moving_is_not_over, over_other}

some_pending : (f : CallKind → Bool) (cs : List Called) → IsInLast f cs → 0 < length cs
some_pending f [] r = absurd r
some_pending f (c ∷ cs) r = omega arith

false_true : (b : Bool) → b ≡ false → b ≡ true → ⊥
false_true b e f = cc

module _ {F : Type 0} (p : Program F) (size : ℕ) (sound : CallKind → F → Bool) where
  abbrev W : State F → Type 0
  W s = IsWellFormed p size sound s

  -- A THREAD THAT CAN MOVE IS THE PROLOGUE'S, OR THE PROLOGUE IS OVER

  free_call : (s : State F) (i j : ℕ) (o : Option CallKind) (b : Buffer) (m : Move F) → next_call p s i ≡ o → p.prologue ≡ Some j → i ≢ j → call_move p b o ≡ Some m → is_over_at p s j ≡ true
  free_call s i j None b m is q n e = absurd (none-some m e)
  free_call s i j (Some k) b m is q n e = begins_after p s i j k is q n

  free_core : (s : State F) (i j : ℕ) (t : CompactThread F) (c : CompactCore F) (m : Move F) → W s → slice_get s.threads i ≡ Some t → t.core ≡ c → p.prologue ≡ Some j → i ≢ j → core_move p (next_call p s i) c t.buffer ≡ Some m → is_over_at p s j ≡ true
  free_core s i j t Resting m w at is q n e = free_call s i j (next_call p s i) t.buffer m refl q n e
  free_core s i j t (Executing f) m w at is q n e =
      let pending : CallsFit sound (Executing f) (calls_in s.history i) = subst (λ c. CallsFit sound c (calls_in s.history i)) is (w.fit i t at) in
      w.prologue i j q n (inl (some_pending (λ k. sound k f) (calls_in s.history i) pending))
  free_core s i j t Halted m w at is q n e = absurd (none-some m e)

  free_drain : (s : State F) (i j : ℕ) (t : CompactThread F) (b : Buffer) (m : Move F) → W s → slice_get s.threads i ≡ Some t → t.buffer ≡ b → p.prologue ≡ Some j → i ≢ j → drain_move t.core b ≡ Some m → is_over_at p s j ≡ true
  free_drain s i j t [] m w at is q n e = absurd (none-some m e)
  free_drain s i j t (x ∷ b) m w at is q n e = w.prologue i j q n (inr (t, at, rw is (omega arith)))

  pub free : (s : State F) (a : Actor) (m : Move F) (j : ℕ) → W s → move p s a ≡ Some m → p.prologue ≡ Some j → thread_of a ≢ j → is_over_at p s j ≡ true
  free s (Exec i) m j w e q n =
      let (t, at) = there p s (Exec i) m e in
      free_core s i j t t.core m w at refl q n (sym (ap (λ (o : Option (CompactThread F)). option_and_then (λ th. core_move p (next_call p s i) th.core th.buffer) o) at) ∙ e)
  free s (Drains i) m j w e q n =
      let (t, at) = there p s (Drains i) m e in
      free_drain s i j t t.buffer m w at refl q n (sym (ap (λ (o : Option (CompactThread F)). option_and_then (λ th. drain_move th.core th.buffer) o) at) ∙ e)

  pub alone : (s : State F) (a b : Actor) (m n : Move F) → W s → p.prologue ≡ Some (thread_of a) → thread_of a ≢ thread_of b → move p s a ≡ Some m → move p s b ≡ Some n → ⊥
  alone s a b m n w q ne ea eb = false_true _ (moving_is_not_over p s a m ea) (free s b n (thread_of a) w eb q (λ e. ne (sym e)))

-- AFTER A STEP

module _ {F : Type 0} (p : Program F) (size : ℕ) (sound : CallKind → F → Bool) (rank : F → ℕ) (r : IsRanked p size sound rank) where
  -- a fact of each thread, where the one that moved has it anew
  each_thread : (R : ℕ → CompactThread F → Type 0) (ts : List (CompactThread F)) (x : ℕ) (old new : CompactThread F) → slice_get ts x ≡ Some old → R x new → ((i : ℕ) (t : CompactThread F) → x ≢ i → slice_get ts i ≡ Some t → R i t)
      → (i : ℕ) (t : CompactThread F) → slice_get (set ts x new) i ≡ Some t → R i t
  each_thread R ts x old new at this others i t e = elim (cases_eq x i) [
    | inl same ↦
        let here : slice_get (set ts x new) x ≡ Some t = subst (λ n. slice_get (set ts x new) n ≡ Some t) (sym same) e in
        let is : new ≡ t = same_Some new t (sym (get_set_same ts x old new at) ∙ here) in
        subst (λ n. R n t) same (subst (R x) is this)
    | inr other ↦ others i t other (sym (get_set_other ts x i new other) ∙ e)
  ]

  call_stays : (s : State F) (x : ℕ) (m : Move F) → IsWellFormed p size sound s → x < length s.history → ((k : CallKind) → m.log ≡ Began k → AllReturned (calls_in s.history x) × (next_call p s x ≡ Some k))
      → (j n : ℕ) (c : Called) → call_at (logged s.history x m.log) j n ≡ Some c → IsCallOf p (logged s.history x m.log) j n c
  call_stays s x m w lt begins j n c e = elim (call_after s.history x j m.log n c lt e) [
    | inl (d, at, kind, seen) ↦
        let o = w.calls j n d at in
        record {
          kind = o.kind ∙ ap Some kind;
          width = ap length (sym seen) ∙ o.width;
          own = ap (λ (xs : List ℕ). get_or xs j 0) (sym seen) ∙ o.own;
          others = λ u. (let a = o.others u in let b = returned_grows s.history x u m.log lt in let q = ap (λ (xs : List ℕ). get_or xs u 0) seen in omega (arith, a, b, q));
        }
    | inr (same, number, (k, is, new)) ↦
        let (all, call) = begins k is in
        let q : c.seen ≡ map returned s.history = ap (λ (y : Called). y.seen) new in
        record {
          kind = rw (same, number) (call_if_some _ _ k call) ∙ ap Some (sym (ap (λ (y : Called). y.kind) new));
          width = ap length q ∙ (length-map s.history returned ∙ w.histories);
          own = ap (λ (xs : List ℕ). get_or xs j 0) q ∙ (seen_count s.history j ∙ (rw (same, number) (all_returned_count (calls_in s.history x) all)));
          others = λ u. (let a = seen_count s.history u in let b = returned_grows s.history x u m.log lt in let z = ap (λ (xs : List ℕ). get_or xs u 0) q in omega (arith, a, b, z));
        }
  ]

  started_other : (s : State F) (x i : ℕ) (m : Move F) → x ≢ i → HasStarted (perform s x m) i → HasStarted s i
  started_other s x i m n (inl lt) = inl (let e = begun_other p s x i m n in omega (arith, lt, e))
  started_other s x i m n (inr (t, at, lt)) = inr (t, sym (thread_other p s x i m n) ∙ at, lt)

  over_after : (s : State F) (x j : ℕ) (m : Move F) → x ≢ j → is_over_at p s j ≡ true → is_over_at p (perform s x m) j ≡ true
  over_after s x j m n e = over_other p s x j m n ∙ e

  prologue_stays : (s : State F) (a : Actor) (m : Move F) → IsWellFormed p size sound s → move p s a ≡ Some m → (i j : ℕ) → p.prologue ≡ Some j → i ≢ j → HasStarted (perform s (thread_of a) m) i → is_over_at p (perform s (thread_of a) m) j ≡ true
  prologue_stays s a m w e i j q n started = elim (cases_eq (thread_of a) j) [
    | inl same ↦
        let over = w.prologue i j q n (started_other s (thread_of a) i m (λ z. n (sym z ∙ same)) started) in
        absurd (false_true _ (moving_is_not_over p s a m e) (subst (λ k. is_over_at p s k ≡ true) (sym same) over))
    | inr other ↦ over_after s (thread_of a) j m other (free p size sound s a m j w e q other)
  ]

  pub stays : (s : State F) (a : Actor) (m : Move F) → IsWellFormed p size sound s → move p s a ≡ Some m → IsWellFormed p size sound (perform s (thread_of a) m)
  stays s a m w e =
      let x = thread_of a in
      let (t, at) = there p s a m e in
      let v = word_read s.memory m.access in
      let within = slice_get_within s.threads x t at in
      let lt : x < length s.history = omega (arith, within, w.threads, w.histories) in
      let o = outcome p size sound rank r s a t m v lt (w.fit x t at) (w.buffers x t at) at e in
      record {
        memory = memory_length s.memory m.access ∙ w.memory;
        threads = length-set s.threads x (m.after v) ∙ w.threads;
        histories = length_logged s.history x m.log ∙ w.histories;
        buffers = each_thread (λ i u. Within size u.buffer) s.threads x t (m.after v) at o.buffer (λ i u n here. w.buffers i u here);
        fit = each_thread (λ i u. CallsFit sound u.core (calls_in (logged s.history x m.log) i)) s.threads x t (m.after v) at o.fit
            (λ i u n here. rw (calls_other s.history x i m.log n) (w.fit i u here));
        calls = call_stays s x m w lt (λ k is. let (idle, call) = o.begins k is in (subst (λ c. CallsFit sound c (calls_in s.history x)) idle (w.fit x t at), call));
        prologue = prologue_stays s a m w e;
      }

-- THE INITIAL STATE

module _ {F : Type 0} (p : Program F) (sound : CallKind → F → Bool) (memory : List ℕ) where
  idle : CompactThread F
  idle = record { core = Resting; buffer = [] }

  abbrev first_threads : List (List CallKind) → List (CompactThread F)
  first_threads kss = map (λ ks. record { core = Resting; buffer = [] }) kss

  at_first : (kss : List (List CallKind)) (i : ℕ) (t : CompactThread F) → slice_get (first_threads kss) i ≡ Some t → (t.core ≡ Resting) × (t.buffer ≡ [])
  at_first [] i t e = absurd (none-some t e)
  at_first (ks ∷ kss) zero t e = let q = same_Some _ t e in (ap (λ (u : CompactThread F). u.core) (sym q), ap (λ (u : CompactThread F). u.buffer) (sym q))
  at_first (ks ∷ kss) (suc i) t e = at_first kss i t e

  not_started : (i : ℕ) → HasStarted (first_state p memory) i → ⊥
  not_started i (inl lt) = let e = ap length (first_empty p.calls i) in absurd (omega (arith, lt, e))
  not_started i (inr (t, at, lt)) = let e = ap length (at_first p.calls i t at).1 in absurd (omega (arith, lt, e))

  pub first_well_formed : IsWellFormed p (length memory) sound (first_state p memory)
  first_well_formed = record {
    memory = refl;
    threads = length-map p.calls _;
    histories = length-map p.calls _;
    buffers = λ i t at. rw (at_first p.calls i t at).1 tt;
    fit = λ i t at. rw ((at_first p.calls i t at).0, first_empty p.calls i) tt;
    calls = λ i n c at. absurd (none-some c (sym (ap (λ cs. slice_get cs n) (first_empty p.calls i)) ∙ at));
    prologue = λ i j q n started. absurd (not_started i started);
  }
