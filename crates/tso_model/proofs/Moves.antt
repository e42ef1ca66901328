-- Steps as moves: what another thread's step leaves as it was, two threads' moves in either order, and the stricter state's step.
use Rattle.std.proofs.Common.{◌≡◌, ◌≢◌, ℕ, [], List, length, Option, Some, None, refl, sym, ◌∙◌, ap, subst}
use Rattle.std.specs.List.{slice_get, AllZip}
use Rattle.std.specs.Option.{option_map, option_and_then}
use Rattle.std.proofs.lemmas.List.{set_comm}
use Rattle.std.proofs.lemmas.List.Elements.{length_all_zip}
use Rattle.std.proofs.lemmas.Option.{none-some, same_Some, option_and_then_some}
use Rattle.tso_model.specs.Accesses.{Apart, MayPass}
use Rattle.tso_model.specs.Programs.{CallKind, Program, calls_of}
use Rattle.tso_model.specs.Prologue.{call_if, is_thread_over, may_begin, next_call}
use Rattle.tso_model.specs.States.{State, CompactThread, begun_by}
use Rattle.tso_model.specs.Steps.{Actor, Drains, Exec, Move, core_move, memory_after, move, perform, step, thread_of}
use Rattle.tso_model.specs.Strictness.{AtLeast, CalledAtLeast}
use Rattle.tso_model.proofs.Begin.{may_same}
use Rattle.tso_model.proofs.History.{calls_other, history_commutes, history_refl, history_trans, logged_same}
use Rattle.tso_model.proofs.Lists.{all_zip_at}
use Rattle.tso_model.proofs.Memory.{memory_commutes, word_apart}
use Rattle.tso_model.proofs.Places.{get_set_other}

module _ {F : Type 0} (p : Program F) where
  pub step_is : (s : State F) (a : Actor) (m : Move F) → move p s a ≡ Some m → step p s a ≡ Some (perform s (thread_of a) m)
  step_is s a m e = ap (option_map (perform s (thread_of a))) e

  -- a step is a move
  pub move_of : (s s' : State F) (a : Actor) → step p s a ≡ Some s' → (m : Move F) × (move p s a ≡ Some m) × (s' ≡ perform s (thread_of a) m)
  move_of s s' a e = option_and_then_some _ (move p s a) s' e (λ m em is. (m, em, sym (same_Some _ _ is)))

  pub no_move : (s : State F) (a : Actor) → step p s a ≡ None → move p s a ≡ None
  no_move s a e = go (move p s a) refl
    where
      go : (o : Option (Move F)) → move p s a ≡ o → move p s a ≡ None
      go None n = n
      go (Some m) n = absurd (none-some _ (sym e ∙ ap (option_map (perform s (thread_of a))) n))

  -- a move reads its own thread and the call that may begin next, no more
  pub move_same : (s t : State F) (a : Actor) → slice_get s.threads (thread_of a) ≡ slice_get t.threads (thread_of a) →
      next_call p s (thread_of a) ≡ next_call p t (thread_of a) → move p s a ≡ move p t a
  move_same s t (Exec i) e n =
      ap (λ (o : Option (CompactThread F)). option_and_then (λ th. core_move p (next_call p s i) th.core th.buffer) o) e ∙
      ap (λ (k : Option CallKind). option_and_then (λ th. core_move p k th.core th.buffer) (slice_get t.threads i)) n
  move_same s t (Drains i) e n = rw e

  -- another thread's move leaves a thread as it was
  pub thread_other : (s : State F) (i j : ℕ) (m : Move F) → i ≢ j → slice_get (perform s i m).threads j ≡ slice_get s.threads j
  thread_other s i j m n = get_set_other s.threads i j _ n

  pub begun_other : (s : State F) (i j : ℕ) (m : Move F) → i ≢ j → begun_by (perform s i m) j ≡ begun_by s j
  begun_other s i j m n = ap length (calls_other s.history i j m.log n)

  -- no other thread's next call is held up or let go
  abbrev pub NextKept : State F → State F → ℕ → Type 0
  NextKept s s' i = (j : ℕ) → i ≢ j → next_call p s' j ≡ next_call p s j

  pub move_other : (s : State F) (i : ℕ) (a : Actor) (m : Move F) → i ≢ thread_of a → NextKept s (perform s i m) i → move p (perform s i m) a ≡ move p s a
  move_other s i a m n kept = move_same (perform s i m) s a (thread_other s i (thread_of a) m n) (kept (thread_of a) n)

  -- the first of two threads' moves may come first
  pub moves_commute : (s : State F) (i j : ℕ) (a b : Move F) → i ≢ j → Apart a.access b.access → MayPass a.log b.log →
      AtLeast (perform (perform s i a) j b) (perform (perform s j b) i a)
  moves_commute s i j a b n apart pass = record {
    memory = memory_commutes s.memory a.access b.access apart;
    threads = rw (word_apart s.memory a.access b.access apart.first, word_apart s.memory b.access a.access (λ q w r. apart.second q r w)) (set_comm s.threads i j _ _ n);
    history = history_commutes s.history i j a.log b.log n pass;
  }

-- THE ORDER OF STATES

module _ {F : Type 0} where
  pub at_least_refl : (s : State F) → AtLeast s s
  at_least_refl s = record { memory = refl; threads = refl; history = history_refl s.history }

  pub at_least_trans : (s t u : State F) → AtLeast s t → AtLeast t u → AtLeast s u
  at_least_trans s t u h k = record { memory = h.memory ∙ k.memory; threads = h.threads ∙ k.threads; history = history_trans s.history t.history u.history h.history k.history }

  begun_same : (s t : State F) (i : ℕ) → AtLeast s t → begun_by s i ≡ begun_by t i
  begun_same s t i h = length_all_zip CalledAtLeast _ _ (all_zip_at (AllZip CalledAtLeast) s.history t.history i [] tt h.history)

  next_at_least : (p : Program F) (s t : State F) (i : ℕ) → AtLeast s t → next_call p s i ≡ next_call p t i
  next_at_least p s t i h =
      let over : (j : ℕ) → is_thread_over p j (begun_by s j) (slice_get s.threads j) ≡ is_thread_over p j (begun_by t j) (slice_get t.threads j) =
      λ j. ap (λ n. is_thread_over p j n (slice_get s.threads j)) (begun_same s t j h) ∙ ap (λ (ts : List (CompactThread F)). is_thread_over p j (begun_by t j) (slice_get ts j)) h.threads in
      ap (λ b. call_if b (slice_get (calls_of p i) (begun_by s i))) (may_same p.prologue i _ _ over) ∙
      ap (λ n. call_if (may_begin p.prologue i (λ j. is_thread_over p j (begun_by t j) (slice_get t.threads j))) (slice_get (calls_of p i) n)) (begun_same s t i h)

  pub same_move : (p : Program F) (s t : State F) (a : Actor) → AtLeast s t → move p s a ≡ move p t a
  same_move p s t a h = move_same p s t a (ap (λ ts. slice_get ts (thread_of a)) h.threads) (next_at_least p s t (thread_of a) h)

  pub same_perform : (s t : State F) (i : ℕ) (m : Move F) → AtLeast s t → AtLeast (perform s i m) (perform t i m)
  same_perform s t i m h = record {
    memory = ap (λ w. memory_after w m.access) h.memory;
    threads = (let e = h.memory in let e' = h.threads in rw (e, e'));
    history = logged_same s.history t.history i m.log h.history;
  }

  pub simulates : (p : Program F) (s t t' : State F) (a : Actor) → AtLeast s t → step p t a ≡ Some t' → (s' : State F) × (step p s a ≡ Some s') × AtLeast s' t'
  simulates p s t t' a h e =
      let (m, em, et) = move_of p t t' a e in
      (perform s (thread_of a) m, step_is p s a m (same_move p s t a h ∙ em), subst (λ x. AtLeast (perform s (thread_of a) m) x) (sym et) (same_perform s t (thread_of a) m h))

  pub as_ended : (p : Program F) (s t : State F) (a : Actor) → AtLeast s t → step p t a ≡ None → step p s a ≡ None
  as_ended p s t a h e = ap (option_map (perform s (thread_of a))) (same_move p s t a h ∙ no_move p t a e)
