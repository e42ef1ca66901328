-- Whose next call a step holds up or lets go: only the prologue's thread can let others' calls go.
use Rattle.std.proofs.Common.{◌≡◌, ◌≢◌, ℕ, ◌==◌, if◌then◌else◌, Bool, true, false, [], ◌∷◌, length, inl, inr, Option, Some, None, refl, sym, ◌∙◌, ap}
use Rattle.std.specs.List.{slice_get}
use Rattle.std.specs.Option.{option_and_then}
use Rattle.std.proofs.lemmas.Bool.{cases_eq, eq-eqb}
use Rattle.std.proofs.lemmas.Bool.Decides.{eqb_tells}
use Rattle.std.proofs.lemmas.Option.{none-some}
use Rattle.tso_model.specs.Programs.{CallKind, Program, calls_of}
use Rattle.tso_model.specs.Prologue.{call_if, is_resting, is_over, is_thread_over, may_begin, next_call}
use Rattle.tso_model.specs.States.{Buffer, CompactCore, Resting, Executing, Same, State, Halted, CompactThread, begun_by, calls_in, logged}
use Rattle.tso_model.specs.Steps.{Actor, Drains, Exec, Move, core_move, drain_move, move, perform, thread_of}
use Rattle.tso_model.proofs.Moves.{NextKept, begun_other, thread_other}

eqb_away : (i j : ℕ) → i ≢ j → (i == j) ≡ false
eqb_away i j n = elim (eqb_tells i j) [ inl x ↦ absurd (n x.1) | inr x ↦ x.0 ]

call_if_none : (b : Bool) → call_if b None ≡ None
call_if_none true = refl
call_if_none false = refl

module _ {F : Type 0} (p : Program F) where
  abbrev pub is_over_at : State F → ℕ → Bool
  is_over_at s j = is_thread_over p j (begun_by s j) (slice_get s.threads j)

  pub over_other : (s : State F) (i j : ℕ) (m : Move F) → i ≢ j → is_over_at (perform s i m) j ≡ is_over_at s j
  over_other s i j m n =
      ap (λ k. is_thread_over p j k (slice_get (perform s i m).threads j)) (begun_other p s i j m n) ∙
      ap (is_thread_over p j (begun_by s j)) (thread_other p s i j m n)

  -- THREADS THAT ARE OVER

  no_exec : (c : CompactCore F) (b : Buffer) (o : Option CallKind) (may : Bool) → is_over (is_resting c) o b ≡ true → core_move p (call_if may o) c b ≡ None
  no_exec Resting [] None may e = rw (call_if_none may) refl
  no_exec Resting (x ∷ b) None may e = cc
  no_exec Resting b (Some k) may e = cc
  no_exec (Executing f) b o may e = cc
  no_exec Halted b o may e = cc

  no_drain : (c : CompactCore F) (b : Buffer) (o : Option CallKind) → is_over (is_resting c) o b ≡ true → drain_move c b ≡ None
  no_drain c [] o e = refl
  no_drain Resting (x ∷ b) None e = cc
  no_drain Resting (x ∷ b) (Some k) e = cc
  no_drain (Executing f) (x ∷ b) o e = cc
  no_drain Halted (x ∷ b) o e = cc

  -- a thread that is over has no step
  pub over_is_still : (s : State F) (a : Actor) → is_over_at s (thread_of a) ≡ true → move p s a ≡ None
  over_is_still s (Exec i) e = go (slice_get s.threads i) e
    where
      go : (o : Option (CompactThread F)) → is_thread_over p i (begun_by s i) o ≡ true → option_and_then (λ t. core_move p (next_call p s i) t.core t.buffer) o ≡ None
      go None h = refl
      go (Some t) h = no_exec t.core t.buffer (slice_get (calls_of p i) (begun_by s i)) _ h
  over_is_still s (Drains i) e = go (slice_get s.threads i) e
    where
      go : (o : Option (CompactThread F)) → is_thread_over p i (begun_by s i) o ≡ true → option_and_then (λ t. drain_move t.core t.buffer) o ≡ None
      go None h = refl
      go (Some t) h = no_drain t.core t.buffer (slice_get (calls_of p i) (begun_by s i)) h

  is_false : (b : Bool) → (b ≡ true → ⊥) → b ≡ false
  is_false true n = absurd (n refl)
  is_false false n = refl

  pub moving_is_not_over : (s : State F) (a : Actor) (m : Move F) → move p s a ≡ Some m → is_over_at s (thread_of a) ≡ false
  moving_is_not_over s a m e = is_false _ (λ t. none-some m (sym (over_is_still s a t) ∙ e))

  -- NEXT CALLS

  next_is : (s s' : State F) (i : ℕ) → may_begin p.prologue i (is_over_at s') ≡ may_begin p.prologue i (is_over_at s) → begun_by s' i ≡ begun_by s i → next_call p s' i ≡ next_call p s i
  next_is s s' i e n =
      ap (λ b. call_if b (slice_get (calls_of p i) (begun_by s' i))) e ∙
      ap (λ k. call_if (may_begin p.prologue i (is_over_at s)) (slice_get (calls_of p i) k)) n

  may_other : (s : State F) (i j : ℕ) (m : Move F) (o : Option ℕ) → ((k : ℕ) → o ≡ Some k → i ≢ k) → may_begin o j (is_over_at (perform s i m)) ≡ may_begin o j (is_over_at s)
  may_other s i j m None n = refl
  may_other s i j m (Some k) n = ap (λ b. if j == k then true else b) (over_other s i k m (n k refl))

  -- a move of another thread than the prologue's
  pub kept_by_others : (s : State F) (i : ℕ) (m : Move F) → ((k : ℕ) → p.prologue ≡ Some k → i ≢ k) → NextKept p s (perform s i m) i
  kept_by_others s i m n j ne = next_is s (perform s i m) j (may_other s i j m p.prologue n) (begun_other p s i j m ne)

  waits : (s : State F) (i j : ℕ) → p.prologue ≡ Some i → i ≢ j → is_over_at s i ≡ false → next_call p s j ≡ None
  waits s i j e n over =
      let may : may_begin p.prologue j (is_over_at s) ≡ false =
      ap (λ o. may_begin o j (is_over_at s)) e ∙ (ap (λ b. if b then true else is_over_at s i) (eqb_away j i (λ q. n (sym q))) ∙ over) in
      ap (λ b. call_if b (slice_get (calls_of p j) (begun_by s j))) may

  -- a move of the prologue's thread that doesn't end it
  pub kept_by_prologue : (s s' : State F) (i : ℕ) → p.prologue ≡ Some i → is_over_at s i ≡ false → is_over_at s' i ≡ false → NextKept p s s' i
  kept_by_prologue s s' i e a b j n = waits s' i j e n b ∙ sym (waits s i j e n a)

  -- its own next call, where no call begins or returns
  pub next_own : (s : State F) (i : ℕ) (m : Move F) → m.log ≡ Same → next_call p (perform s i m) i ≡ next_call p s i
  next_own s i m e = next_is s (perform s i m) i (go p.prologue) (ap (λ l. length (calls_in (logged s.history i l) i)) e)
    where
      go : (o : Option ℕ) → may_begin o i (is_over_at (perform s i m)) ≡ may_begin o i (is_over_at s)
      go None = refl
      go (Some k) = elim (cases_eq i k) [
        | inl same ↦ rw (eq-eqb i k same) refl
        | inr other ↦ ap (λ b. if i == k then true else b) (over_other s i k m other)
      ]

  -- a call that may begin in another thread than the prologue's
  pub begins_after : (s : State F) (i j : ℕ) (k : CallKind) → next_call p s i ≡ Some k → p.prologue ≡ Some j → i ≢ j → is_over_at s j ≡ true
  begins_after s i j k e q n = go (is_over_at s j) refl
    where
      go : (b : Bool) → is_over_at s j ≡ b → is_over_at s j ≡ true
      go true is = is
      go false is = absurd (none-some k (sym (waits s j i q (λ x. n (sym x)) is) ∙ e))
