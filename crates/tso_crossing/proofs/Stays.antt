-- The reasons of a free actor's parts: they let them pass another thread's move, and stay after it.
use Rattle.std.proofs.Common.{◌≡◌, ◌≢◌, ℕ, List, [], ◌∷◌, Option, Some, None, refl, sym, ◌∙◌, ap, subst, inl, inr, false}
use Rattle.std.specs.Prelude.{IsTrue}
use Rattle.std.specs.List.{slice_get}
use Rattle.std.proofs.lemmas.Bool.{cases_eq}
use Rattle.std.proofs.lemmas.Option.{none-some, same_Some}
use Rattle.tso_model.specs.Programs.{CallKind, Program, calls_of}
use Rattle.tso_model.specs.Prologue.{next_call}
use Rattle.tso_model.specs.Reasons.{Future, Holds, IsDone, IsFuture, Reason}
use Rattle.tso_model.specs.Reduce.{Has, Steps}
use Rattle.tso_model.specs.States.{Buffer, Log, Resting, State, begun_by}
use Rattle.tso_model.specs.Steps.{Access, Actor, Exec, Move, move, perform, step, thread_of}
use Rattle.tso_model.proofs.Begin.{call_if_some}
use Rattle.tso_model.proofs.Moves.{NextKept, begun_other, move_other, thread_other}
use Rattle.tso_model.proofs.Moves as moves
use Rattle.tso_model.proofs.Persistent.{IsInvariant}
use Rattle.tso_model.proofs.Waits.{is_over_at, kept_by_others, kept_by_prologue, moving_is_not_over}
use Rattle.tso_crossing.specs.Moves.{Extent, opened_call, opening, parts}
use Rattle.tso_crossing.proofs.AsSteps.{AsSteps, as_steps, opening_as_steps}
use Rattle.tso_crossing.proofs.Lags.{begins_not_over}
use Rattle.tso_crossing.proofs.Past.{opened_not_over}

-- a parted move's first step
pub first_step : {F : Type 0} (p : Program F) (n : Extent) (s : State F) (a : Actor) (ms : List (Move F)) → parts p n s a ≡ Some ms → (m : Move F) × (move p s a ≡ Some m)
first_step p n s a ms e = let x = as_steps p n s a ms e in let (m, em, is) = moves.move_of p s x.first a x.begins in (m, em)

module _ {F : Type 0} (p : Program F) (W : State F → Type 0) (inv : IsInvariant p W) where
  pub holds_step : (s x : State F) (a : Actor) → W s → step p s a ≡ Some x → W x
  holds_step s x a w e = let (m, em, is) = moves.move_of p s x a e in subst W (sym is) (inv.stays s a m w em)

  holds_steps : (as' : List Actor) (s x : State F) → W s → Steps (step p) s as' x → W x
  holds_steps [] s x w e = subst W e w
  holds_steps (a ∷ rest) s x w (y, e, r) = holds_steps rest y x (holds_step s y a w e) r

  pub holds_as_steps : (a : Actor) (s x : State F) → W s → AsSteps p a s x → W x
  holds_as_steps a s x w h = holds_steps h.more.steps h.first x (holds_step s h.first a w h.begins) h.more.run

  -- WHOSE NEXT CALL IS HELD UP OR LET GO

  -- where two threads have steps, neither is the prologue's
  pub never_first : (s : State F) (a b : Actor) (ma mb : Move F) → W s → thread_of b ≢ thread_of a → move p s a ≡ Some ma → move p s b ≡ Some mb → (k : ℕ) → p.prologue ≡ Some k → thread_of b ≢ k
  never_first s a b ma mb w n ea eb k e same = inv.alone s b a mb ma w (e ∙ ap Some (sym same)) n eb ea

  pub kept_own : (s : State F) (i : ℕ) (any : Move F) → is_over_at p s i ≡ false → is_over_at p (perform s i any) i ≡ false → NextKept p s (perform s i any) i
  kept_own s i any before after = go p.prologue refl
    where
      go : (o : Option ℕ) → p.prologue ≡ o → NextKept p s (perform s i any) i
      go None e = kept_by_others p s i any (λ k q x. none-some k (sym e ∙ q))
      go (Some k) e = elim (cases_eq i k) [
        | inl same ↦ kept_by_prologue p s (perform s i any) i (e ∙ ap Some (sym same)) before after
        | inr other ↦ kept_by_others p s i any (λ l q x. other (x ∙ same_Some l k (sym q ∙ e)))
      ]

  -- after b's step, where a has a step before and after
  pub kept : (s : State F) (a b : Actor) (ma mb ma' : Move F) → W s → move p s a ≡ Some ma → move p s b ≡ Some mb → move p (perform s (thread_of b) mb) a ≡ Some ma' → NextKept p s (perform s (thread_of b) mb) (thread_of b)
  kept s a b ma mb ma' w ea eb after = elim (cases_eq (thread_of b) (thread_of a)) [
    | inl same ↦ kept_own s (thread_of b) mb (moving_is_not_over p s b mb eb)
        (subst (λ i. is_over_at p (perform s (thread_of b) mb) i ≡ false) (sym same) (moving_is_not_over p (perform s (thread_of b) mb) a ma' after))
    | inr other ↦ kept_by_others p s (thread_of b) mb (never_first s a b ma mb w other ea eb)
  ]

  -- after an opening
  pub kept_opening : (s : State F) (i : ℕ) (b : Buffer) (k : CallKind) (f : F) → slice_get s.threads i ≡ Some (record { core = Resting; buffer = b }) → next_call p s i ≡ Some k → NextKept p s (perform s i (opening b k f)) i
  kept_opening s i b k f at may = kept_own s i (opening b k f) (begins_not_over p s i b k at may) (opened_not_over p s i b k f at)

module _ {F : Type 0} (p : Program F) (W : State F → Type 0) (inv : IsInvariant p W) (fu : Future F) (laws : IsFuture p W fu) (chosen : List Actor) where
  -- FUTURES SHRINK

  reads_steps : (xs : List Actor) (s x : State F) (j q : ℕ) → W s → Steps (step p) s xs x → IsTrue (fu.reads x j q) → IsTrue (fu.reads s j q)
  reads_steps [] s x j q w e h = subst (λ y. IsTrue (fu.reads y j q)) (sym e) h
  reads_steps (b ∷ rest) s x j q w (y, e, r) h = laws.reads_shrink s y b j q w e (reads_steps rest y x j q (holds_step p W inv s y b w e) r h)

  writes_steps : (xs : List Actor) (s x : State F) (j q : ℕ) → W s → Steps (step p) s xs x → IsTrue (fu.writes x j q) → IsTrue (fu.writes s j q)
  writes_steps [] s x j q w e h = subst (λ y. IsTrue (fu.writes y j q)) (sym e) h
  writes_steps (b ∷ rest) s x j q w (y, e, r) h = laws.writes_shrink s y b j q w e (writes_steps rest y x j q (holds_step p W inv s y b w e) r h)

  reads_back : (b : Actor) (s x : State F) (j q : ℕ) → W s → AsSteps p b s x → IsTrue (fu.reads x j q) → IsTrue (fu.reads s j q)
  reads_back b s x j q w h = reads_steps (b ∷ h.more.steps) s x j q w (h.first, h.begins, h.more.run)

  writes_back : (b : Actor) (s x : State F) (j q : ℕ) → W s → AsSteps p b s x → IsTrue (fu.writes x j q) → IsTrue (fu.writes s j q)
  writes_back b s x j q w h = writes_steps (b ∷ h.more.steps) s x j q w (h.first, h.begins, h.more.run)

  -- AFTER AN OPENING OF THREAD i

  module _ (n : Extent) (s : State F) (w : W s) (i : ℕ) (b : Buffer) (k : CallKind) (f : F) (at : slice_get s.threads i ≡ Some (record { core = Resting; buffer = b })) (may : next_call p s i ≡ Some k) (leads : opened_call p n i s.memory b k ≡ f) (access : Access) (log : Log) (j : ℕ) (nb : Has chosen (Exec i) → ⊥) where
    abbrev after : State F
    after = perform s i (opening b k f)

    opens : AsSteps p (Exec i) s (perform s i (opening b k f))
    opens = opening_as_steps p n s i b k f at may leads

    far_stays : Holds p fu s chosen access log j Reason.Far → Holds p fu (perform s i (opening b k f)) chosen access log j Reason.Far
    far_stays h = (
      h.0,
      λ q r x. h.1 q r (writes_back (Exec i) s after j q w opens x),
      λ q r x. h.2 q r (reads_back (Exec i) s after j q w opens x),
      λ q r x. h.3 q r (writes_back (Exec i) s after j q w opens x),
    )

    calls_now : move p s (Exec i) ≡ Some (opening b k (p.start k))
    calls_now = rw (at, may) refl

    inside_stays : Holds p fu s chosen access log j Reason.Inside → Holds p fu (perform s i (opening b k f)) chosen access log j Reason.Inside
    inside_stays h c same = elim (h c same) [
      | inl has ↦ inl has
      | inr still ↦ elim (cases_eq i j) [
        | inl mine ↦ elim (h (Exec i) mine) [
          | inl has ↦ absurd (nb has)
          | inr none ↦ absurd (none-some _ (sym none ∙ calls_now))
        ]
        | inr other ↦ inr (move_other p s i c (opening b k f) (λ e. other (e ∙ same)) (kept_opening p W inv s i b k f at may) ∙ still)
      ]
    ]

    done_stays : Holds p fu s chosen access log j Reason.NoReturn → Holds p fu (perform s i (opening b k f)) chosen access log j Reason.NoReturn
    done_stays h = (
      h.0,
      h.1,
      λ t here. elim (cases_eq i j) [
        | inl mine ↦ absurd (none-some k (sym (h.2 _ (subst (λ x. slice_get s.threads x ≡ Some (record { core = Resting; buffer = b })) mine at)) ∙ subst (λ x. slice_get (calls_of p x) (begun_by s x) ≡ Some k) mine (call_if_some _ _ k may)))
        | inr other ↦ subst (λ x. IsDone p (calls_of p j) x t.core) (sym (begun_other p s i j (opening b k f) other)) (h.2 t (sym (thread_other p s i j (opening b k f) other) ∙ here))
      ],
    )

    buffered_stays : Holds p fu s chosen access log j Reason.Buffered → Holds p fu (perform s i (opening b k f)) chosen access log j Reason.Buffered
    buffered_stays h = (
      h.0,
      λ t q here x. elim (cases_eq i j) [
        | inl mine ↦ absurd (nb (subst (λ u. Has chosen (Exec u)) (sym mine) h.0))
        | inr other ↦ h.1 t q (sym (thread_other p s i j (opening b k f) other) ∙ here) x
      ],
    )

    pub opening_stays : (r : Reason) → Holds p fu s chosen access log j r → Holds p fu (perform s i (opening b k f)) chosen access log j r
    opening_stays Reason.Own h = h
    opening_stays Reason.Far h = far_stays h
    opening_stays Reason.Inside h = inside_stays h
    opening_stays Reason.Buffered h = buffered_stays h
    opening_stays Reason.Returns h = h
    opening_stays Reason.NoReturn h = done_stays h
