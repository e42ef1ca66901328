-- Choices with valid reasons are persistent.
use Rattle.std.proofs.Common.{◌≡◌, ◌≢◌, ℕ, ◌<◌, List, inl, inr, length, Option, Some, None, false, refl, sym, ◌∙◌, ap, subst, length-set}
use Rattle.std.specs.List.{slice_get}
use Rattle.std.proofs.lemmas.Bool.{cases_eq}
use Rattle.std.proofs.lemmas.Option.{none-some, same_Some, slice_get_within, option_and_then_some}
use Rattle.tso_model.specs.Programs.{Program}
use Rattle.tso_model.specs.Reasons.{Future, Holds, IsFuture, Reason, Valid}
use Rattle.tso_model.specs.Reduce.{Has, Persistent}
use Rattle.tso_model.specs.States.{State, CompactThread}
use Rattle.tso_model.specs.Steps.{Actor, Drains, Exec, Move, move, perform, step, thread_of}
use Rattle.tso_model.specs.Strictness.{AtLeast}
use Rattle.tso_model.proofs.Moves.{NextKept, at_least_refl, at_least_trans, move_of, move_other, moves_commute, simulates, step_is}
use Rattle.tso_model.proofs.Own.{InRange, OwnDiamond, own_diamond}
use Rattle.tso_model.proofs.Reasons.{reason_passes}
use Rattle.tso_model.proofs.Reduce.{StepsLeft, persistent}
use Rattle.tso_model.proofs.Stable.{reason_stays}
use Rattle.tso_model.proofs.Waits.{is_over_at, kept_by_others, kept_by_prologue, moving_is_not_over}

-- what is asked of the states: buffered places within the memory, while the prologue's thread can move no other can, and
-- each step keeps it so
pub record IsInvariant {F : Type 0} (p : Program F) (W : State F → Type 0) : Type 0 where
  pub in_range : (s : State F) → W s → InRange s
  pub stays : (s : State F) (a : Actor) (m : Move F) → W s → move p s a ≡ Some m → W (perform s (thread_of a) m)
  pub alone : (s : State F) (a b : Actor) (m n : Move F) → W s → p.prologue ≡ Some (thread_of a) → thread_of a ≢ thread_of b → move p s a ≡ Some m → move p s b ≡ Some n → ⊥

-- an actor with a move is one of a thread that is there
pub there : {F : Type 0} (p : Program F) (s : State F) (b : Actor) (m : Move F) → move p s b ≡ Some m → (t : CompactThread F) × (slice_get s.threads (thread_of b) ≡ Some t)
there p s (Exec i) m e = option_and_then_some _ (slice_get s.threads i) m e (λ t here is. (t, here))
there p s (Drains i) m e = option_and_then_some _ (slice_get s.threads i) m e (λ t here is. (t, here))

-- A CHOSEN STEP MOVES LEFT

-- c's step is there after b's, with the same access and entry, b's after c's, and the order c, b ends at least as strict
pub record Left {F : Type 0} (p : Program F) (s : State F) (c b : Actor) (mc mb : Move F) : Type 0 where
  pub mc' : Move F
  pub mb' : Move F
  pub c_moves : move p (perform s (thread_of b) mb) c ≡ Some mc'
  pub b_moves : move p (perform s (thread_of c) mc) b ≡ Some mb'
  pub access : mc'.access ≡ mc.access
  pub log : mc'.log ≡ mc.log
  pub meet : AtLeast (perform (perform s (thread_of c) mc) (thread_of b) mb') (perform (perform s (thread_of b) mb) (thread_of c) mc')

module _ {F : Type 0} (p : Program F) (W : State F → Type 0) (inv : IsInvariant p W) (f : Future F) (laws : IsFuture p W f) (chosen : List Actor) where
  -- two threads' moves at one state leave others' next calls, and each other's
  kept_apart : (s : State F) (c b : Actor) (mc mb : Move F) → W s → thread_of b ≢ thread_of c → move p s c ≡ Some mc → move p s b ≡ Some mb → NextKept p s (perform s (thread_of b) mb) (thread_of b)
  kept_apart s c b mc mb w n ec eb = kept_by_others p s (thread_of b) mb (λ k e same. inv.alone s b c mb mc w (e ∙ ap Some (sym same)) n eb ec)

  -- one thread's two moves, of which one is still there after the other
  kept_own : (s : State F) (c b : Actor) (mc mb : Move F) → thread_of b ≡ thread_of c → move p s b ≡ Some mb → move p (perform s (thread_of b) mb) c ≡ Some mc → NextKept p s (perform s (thread_of b) mb) (thread_of b)
  kept_own s c b mc mb same eb ec = go p.prologue refl
    where
      go : (o : Option ℕ) → p.prologue ≡ o → NextKept p s (perform s (thread_of b) mb) (thread_of b)
      go None e = kept_by_others p s (thread_of b) mb (λ k q x. none-some k (sym e ∙ q))
      go (Some k) e = elim (cases_eq (thread_of b) k) [
        | inl is ↦
            let after : is_over_at p (perform s (thread_of b) mb) (thread_of b) ≡ false = subst (λ i. is_over_at p (perform s (thread_of b) mb) i ≡ false) (sym same) (moving_is_not_over p (perform s (thread_of b) mb) c mc ec) in
            kept_by_prologue p s (perform s (thread_of b) mb) (thread_of b) (e ∙ ap Some (sym is)) (moving_is_not_over p s b mb eb) after
        | inr other ↦ kept_by_others p s (thread_of b) mb (λ l q x. other (x ∙ same_Some l k (sym q ∙ e)))
      ]

  -- of one's own thread's other actor
  left_own : (s : State F) (c b : Actor) (mc mb : Move F) → Has chosen c → (Has chosen b → ⊥) → thread_of b ≡ thread_of c →
      move p s c ≡ Some mc → move p s b ≡ Some mb → InRange s → Left p s c b mc mb
  left_own s (Exec i) (Exec j) mc mb hc nb same ec eb r = absurd (nb (rw same hc))
  left_own s (Drains i) (Drains j) mc mb hc nb same ec eb r = absurd (nb (rw same hc))
  left_own s (Exec i) (Drains j) mc mb hc nb same ec eb r =
      let d : OwnDiamond p s i mc mb = own_diamond p s i mc mb ec (rw same at eb) r in
      rw same (record {
        mc' = d.exec';
        mb' = d.drain';
        c_moves = d.exec_moves;
        b_moves = d.drain_moves;
        access = d.exec_access;
        log = d.exec_log;
        meet = subst (λ x. AtLeast x (perform (perform s i mb) i d.exec')) d.meet (at_least_refl _);
      })
  left_own s (Drains i) (Exec j) mc mb hc nb same ec eb r =
      let d : OwnDiamond p s i mb mc = own_diamond p s i mb mc (rw same at eb) ec r in
      rw same (record {
        mc' = d.drain';
        mb' = d.exec';
        c_moves = d.drain_moves;
        b_moves = d.exec_moves;
        access = d.drain_access;
        log = d.drain_log;
        meet = subst (λ x. AtLeast (perform (perform s i mc) i d.exec') x) d.meet (at_least_refl _);
      })

  -- of any unchosen actor
  left : (s : State F) (c b : Actor) (mc mb : Move F) → W s → Has chosen c → (Has chosen b → ⊥) → move p s c ≡ Some mc → move p s b ≡ Some mb →
      ((j : ℕ) → j < length s.threads → j ≢ thread_of c → (r : Reason) × Holds p f s chosen mc.access mc.log j r) → Left p s c b mc mb
  left s c b mc mb w hc nb ec eb why = elim (cases_eq (thread_of b) (thread_of c)) [
    | inl same ↦ left_own s c b mc mb hc nb same ec eb (inv.in_range s w)
    | inr other ↦
        let (t, here) = there p s b mb eb in
        let (reason, holds) = why (thread_of b) (slice_get_within _ _ t here) other in
        let passes = reason_passes p W f laws s w chosen mc.access mc.log reason b mb nb eb holds in
        record {
          mc' = mc;
          mb' = mb;
          c_moves = move_other p s (thread_of b) c mb other (kept_apart s c b mc mb w other ec eb) ∙ ec;
          b_moves = move_other p s (thread_of c) b mc (λ q. other (sym q)) (kept_apart s b c mb mc w (λ q. other (sym q)) eb ec) ∙ eb;
          access = refl;
          log = refl;
          meet = moves_commute p s (thread_of c) (thread_of b) mc mb (λ q. other (sym q)) passes.0 passes.1;
        }
  ]

  -- what all chosen actors keep until one of them moves
  pub record AllValid (s : State F) : Type 0 where
    pub holds : W s
    pub valid : (c : Actor) → Has chosen c → Valid p f s chosen c

  abbrev Reasons : State F → Actor → Move F → Type 0
  Reasons s c mc = (j : ℕ) → j < length s.threads → j ≢ thread_of c → (r : Reason) × Holds p f s chosen mc.access mc.log j r

  kept : (s : State F) (c b : Actor) (mc mb mc' : Move F) → W s → move p s c ≡ Some mc → move p s b ≡ Some mb → move p (perform s (thread_of b) mb) c ≡ Some mc' → NextKept p s (perform s (thread_of b) mb) (thread_of b)
  kept s c b mc mb mc' w ec eb after = elim (cases_eq (thread_of b) (thread_of c)) [
    | inl same ↦ kept_own s c b mc' mb same eb after
    | inr other ↦ kept_apart s c b mc mb w other ec eb
  ]

  valid_after : (s : State F) (c b : Actor) (mc mb : Move F) → W s → Has chosen c → (Has chosen b → ⊥) → move p s c ≡ Some mc → move p s b ≡ Some mb → Reasons s c mc → Valid p f (perform s (thread_of b) mb) chosen c
  valid_after s c b mc mb w hc nb ec eb why =
      let l : Left p s c b mc mb = left s c b mc mb w hc nb ec eb why in (
        l.mc',
        l.c_moves,
        λ j lt ne.
            let (reason, holds) = why j (rw length-set at lt) ne in
            (reason, rw (l.access, l.log) (reason_stays p W f laws s w chosen mc.access mc.log reason b mb j nb (kept s c b mc mb l.mc' w ec eb l.c_moves) eb holds)),
      )

  valid_stays : (s : State F) (b : Actor) (m : Move F) → AllValid s → (Has chosen b → ⊥) → move p s b ≡ Some m → AllValid (perform s (thread_of b) m)
  valid_stays s b m v nb e = record {
    holds = inv.stays s b m v.holds e;
    valid = λ c hc. let (mc, ec, why) = v.valid c hc in valid_after s c b mc m v.holds hc nb ec e why;
  }

  passes_left : (s y : State F) (c b : Actor) (mc mb : Move F) → W s → Has chosen c → (Has chosen b → ⊥) → move p s c ≡ Some mc → move p s b ≡ Some mb → Reasons s c mc → step p (perform s (thread_of b) mb) c ≡ Some y →
      (s' : State F) × (u : State F) × (step p s c ≡ Some s') × (step p s' b ≡ Some u) × AtLeast u y
  passes_left s y c b mc mb w hc nb ec eb why ey =
      let l : Left p s c b mc mb = left s c b mc mb w hc nb ec eb why in
      let is : perform (perform s (thread_of b) mb) (thread_of c) l.mc' ≡ y = same_Some _ _ (sym (step_is p (perform s (thread_of b) mb) c l.mc' l.c_moves) ∙ ey) in
      (_, _, step_is p s c mc ec, step_is p (perform s (thread_of c) mc) b l.mb' l.b_moves, subst (λ x. AtLeast (perform (perform s (thread_of c) mc) (thread_of b) l.mb') x) is l.meet)

  steps_left : StepsLeft (step p) AtLeast AllValid chosen
  steps_left = record {
    same = at_least_refl;
    trans = at_least_trans;
    simulates = simulates p;
    has_step = λ s c v h. let (m, e, why) = v.valid c h in (_, step_is p s c m e);
    stays = λ s s' b v nb e. let (m, em, is) = move_of p s s' b e in subst (λ x. AllValid x) (sym is) (valid_stays s b m v nb em);
    passes = λ s x y c b v hc nb e ey.
        let (m, em, is) = move_of p s x b e in
        let (mc, ec, why) = v.valid c hc in
        passes_left s y c b mc m v.holds hc nb ec em why (subst (λ z. step p z c ≡ Some y) is ey);
  }

  -- choices with valid reasons are persistent
  pub valid_persistent : (s : State F) → W s → ((c : Actor) → Has chosen c → Valid p f s chosen c) → Persistent (step p) AtLeast s chosen
  valid_persistent s w v = persistent (step p) AtLeast AllValid chosen steps_left s (record { holds = w; valid = v })
