-- Moves of two threads, in either order; and what a move leaves to other threads.
use Rattle.std.proofs.Common.{◌≡◌, ◌≢◌, ℕ, List, [], ◌∷◌, get_or, Option, Some, None, refl, sym, ◌∙◌, ap, subst, inl, inr, true, false}
use Rattle.std.specs.List.{slice_get, AllZip}
use Rattle.std.specs.Option.{option_map, option_and_then}
use Rattle.std.proofs.lemmas.List.Elements.{length_all_zip}
use Rattle.std.proofs.lemmas.Option.{none-some}
use Rattle.tso_model.specs.Accesses.{Apart, MayPass, Writes}
use Rattle.tso_model.specs.Programs.{CallKind, Program, calls_of}
use Rattle.tso_model.specs.Prologue.{call_if, is_thread_over, may_begin, next_call}
use Rattle.tso_model.specs.Reduce.{Has, Steps}
use Rattle.tso_model.specs.States.{Buffer, CompactCore, CompactThread, Executing, Halted, Resting, State, begun_by, calls_in}
use Rattle.tso_model.specs.Steps.{Actor, Drains, Exec, Move, Read, drain_move, move, perform, step, thread_of}
use Rattle.tso_model.specs.Strictness.{AtLeast, CalledAtLeast}
use Rattle.tso_model.proofs.Begin.{may_same}
use Rattle.tso_model.proofs.History.{calls_other}
use Rattle.tso_model.proofs.Lists.{all_zip_at}
use Rattle.tso_model.proofs.Memory.{word_apart}
use Rattle.tso_model.proofs.Moves.{NextKept, at_least_refl, at_least_trans, moves_commute, same_perform, thread_other}
use Rattle.tso_model.proofs.Places.{get_set_same}
use Rattle.tso_model.proofs.Waits.{begins_after, is_over_at, moving_is_not_over}
use Rattle.tso_crossing.specs.Moves.{Extent, call_parts, core_parts, idle_parts, late_move, one_part, opened, opened_call, opening, parts, perform_all}
use Rattle.tso_crossing.proofs.AsSteps.{AsSteps, Call, Ends, Goes, Kind, Step, Then, kind_of, late_is, lates, opening_as_steps}
use Rattle.tso_crossing.proofs.Lags.{begins_not_over, false_true, next_stays}
use Rattle.tso_crossing.proofs.Openings.{readable_same}
use Rattle.tso_crossing.proofs.Unwritten.{IsUnwritten}

-- LISTS OF PARTS

-- each part of the first may be taken before each of the second
abbrev pub AllPass : {F : Type 0} → List (Move F) → List (Move F) → Type 0
AllPass {F} ms bs = (a b : Move F) → Has ms a → Has bs b → Apart a.access b.access × MayPass a.log b.log

module _ {F : Type 0} where
  pub same_performs : (ms : List (Move F)) (s t : State F) (i : ℕ) → AtLeast s t → AtLeast (perform_all s i ms) (perform_all t i ms)
  same_performs [] s t i h = h
  same_performs (m ∷ ms) s t i h = same_performs ms (perform s i m) (perform t i m) i (same_perform s t i m h)

module _ {F : Type 0} (p : Program F) (i j : ℕ) (ne : i ≢ j) where
  one_past : (a : Move F) (bs : List (Move F)) (s : State F) → AllPass (a ∷ []) bs → AtLeast (perform_all (perform s i a) j bs) (perform (perform_all s j bs) i a)
  one_past a [] s h = at_least_refl _
  one_past a (b ∷ bs) s h =
      let first = h a b (inl refl) (inl refl) in
      at_least_trans _ _ _ (same_performs bs _ _ j (moves_commute p s i j a b ne first.0 first.1)) (one_past a bs (perform s j b) (λ x y hx hy. h x y hx (inr hy)))

  pub all_past : (ms bs : List (Move F)) (s : State F) → AllPass ms bs → AtLeast (perform_all (perform_all s i ms) j bs) (perform_all (perform_all s j bs) i ms)
  all_past [] bs s h = at_least_refl _
  all_past (a ∷ ms) bs s h =
      at_least_trans _ _ _ (all_past ms bs (perform s i a) (λ x y hx hy. h x y (inr hx) hy))
      (same_performs ms _ _ i (one_past a bs s (λ x y hx hy. elim hx [ inl e ↦ h x y (inl e) hy | inr e ↦ absurd e ])))

-- WHAT OTHER THREADS KEEP

module _ {F : Type 0} (p : Program F) where
  pub thread_past : (ms : List (Move F)) (s : State F) (i j : ℕ) → i ≢ j → slice_get (perform_all s i ms).threads j ≡ slice_get s.threads j
  thread_past [] s i j ne = refl
  thread_past (m ∷ ms) s i j ne = thread_past ms (perform s i m) i j ne ∙ thread_other p s i j m ne

  pub calls_past : (ms : List (Move F)) (s : State F) (i j : ℕ) → i ≢ j → calls_in (perform_all s i ms).history j ≡ calls_in s.history j
  calls_past [] s i j ne = refl
  calls_past (m ∷ ms) s i j ne = calls_past ms (perform s i m) i j ne ∙ calls_other s.history i j m.log ne

  -- after a call's opening its thread is not over
  pub opened_not_over : (s : State F) (i : ℕ) (b : Buffer) (k : CallKind) (f : F) → slice_get s.threads i ≡ Some (record { core = Resting; buffer = b }) → is_over_at p (perform s i (opening b k f)) i ≡ false
  opened_not_over s i b k f at = ap (λ (o : Option (CompactThread F)). is_thread_over p i (begun_by (perform s i (opening b k f)) i) o) (get_set_same s.threads i _ (record { core = Executing f; buffer = b }) at)

  next_then : (n : Extent) (s : State F) (i j : ℕ) (b : Buffer) (k c : CallKind) (f : F) (rest : List (Move F)) → slice_get s.threads i ≡ Some (record { core = Resting; buffer = b }) → i ≢ j → Then p n s b f rest
      → next_call p (perform s i (opening b k f)) j ≡ Some c → next_call p (perform_all (perform s i (opening b k f)) i rest) j ≡ Some c
  next_then n s i j b k c f _ at ne (Ends cut) e = e
  next_then n s i j b k c f _ at ne (Goes m act) e = next_stays p (perform s i (opening b k f)) i j m c (opened_not_over s i b k f at) ne e

  next_kind : (n : Extent) (s : State F) (a : Actor) (ms : List (Move F)) (j : ℕ) (c : CallKind) → Kind p n s a ms → thread_of a ≢ j → next_call p s j ≡ Some c → next_call p (perform_all s (thread_of a) ms) j ≡ Some c
  next_kind n s _ _ j c (Step a ms x) ne e = rw x.is (next_stays p s (thread_of a) j x.one c (moving_is_not_over p s a x.one x.moves) ne e)
  next_kind n s _ _ j c (Call i ms x) ne e =
      rw x.is (next_then n s i j x.buffer x.kind c x.frame x.rest x.idle ne x.next (next_stays p s i j (opening x.buffer x.kind x.frame) c (begins_not_over p s i x.buffer x.kind x.idle x.may) ne e))

  -- a call that may begin still may after another thread's move
  pub next_past : (n : Extent) (s : State F) (a : Actor) (ms : List (Move F)) (j : ℕ) (c : CallKind) → parts p n s a ≡ Some ms → thread_of a ≢ j → next_call p s j ≡ Some c → next_call p (perform_all s (thread_of a) ms) j ≡ Some c
  next_past n s a ms j c e ne q = next_kind n s a ms j c (kind_of p n s a ms e) ne q

  -- a thread that is as it was has the same move, where what its opening may read is as it was
  pub parts_same : (n : Extent) (s x : State F) (a : Actor) (ms : List (Move F)) → slice_get x.threads (thread_of a) ≡ slice_get s.threads (thread_of a) → ((c : CallKind) → next_call p s (thread_of a) ≡ Some c → next_call p x (thread_of a) ≡ Some c)
      → ((c : CallKind) (q : ℕ) → next_call p s (thread_of a) ≡ Some c → n.own (thread_of a) q ≡ true → get_or s.memory q 0 ≡ get_or x.memory q 0)
      → parts p n s a ≡ Some ms → parts p n x a ≡ Some ms
  parts_same n s x (Drains i) ms at next words e = ap (λ (o : Option (CompactThread F)). option_and_then (λ t. option_map one_part (drain_move t.core t.buffer)) o) at ∙ e
  parts_same n s x (Exec i) ms at next words e = ap (λ (o : Option (CompactThread F)). option_and_then (λ t. core_parts p n i x.memory (next_call p x i) t.core t.buffer) o) at ∙ go (slice_get s.threads i) e
    where
      idle : (b : Buffer) (o : Option CallKind) → next_call p s i ≡ o → idle_parts p n i s.memory b o ≡ Some ms → idle_parts p n i x.memory b (next_call p x i) ≡ Some ms
      idle b None is q = absurd (none-some ms q)
      idle b (Some k) is q =
          let same : opened_call p n i x.memory b k ≡ opened_call p n i s.memory b k = ap (λ r. opened p r n.most b (p.start k)) (sym (readable_same (n.own i) b s.memory x.memory (λ u own. words k u is own))) in
          ap (idle_parts p n i x.memory b) (next k is) ∙ (ap (λ f. call_parts b k f (p.next f)) same ∙ q)

      core : (c : CompactCore F) (b : Buffer) → core_parts p n i s.memory (next_call p s i) c b ≡ Some ms → core_parts p n i x.memory (next_call p x i) c b ≡ Some ms
      core Resting b q = idle b (next_call p s i) refl q
      core (Executing f) b q = q
      core Halted b q = q

      go : (o : Option (CompactThread F)) → option_and_then (λ t. core_parts p n i s.memory (next_call p s i) t.core t.buffer) o ≡ Some ms → option_and_then (λ t. core_parts p n i x.memory (next_call p x i) t.core t.buffer) o ≡ Some ms
      go None q = absurd (none-some ms q)
      go (Some t) q = core t.core t.buffer q

  -- nor has it one where it had none
  pub none_same : (n : Extent) (s x : State F) (a : Actor) → slice_get x.threads (thread_of a) ≡ slice_get s.threads (thread_of a) → next_call p x (thread_of a) ≡ next_call p s (thread_of a)
      → ((c : CallKind) (q : ℕ) → next_call p s (thread_of a) ≡ Some c → n.own (thread_of a) q ≡ true → get_or s.memory q 0 ≡ get_or x.memory q 0)
      → parts p n s a ≡ None → parts p n x a ≡ None
  none_same n s x a at next words e = go (parts p n x a) refl
    where
      back : (c : CallKind) (q : ℕ) → next_call p x (thread_of a) ≡ Some c → n.own (thread_of a) q ≡ true → get_or x.memory q 0 ≡ get_or s.memory q 0
      back c q is own = sym (words c q (sym next ∙ is) own)

      go : (o : Option (List (Move F))) → parts p n x a ≡ o → parts p n x a ≡ None
      go None is = is
      go (Some ms) is = absurd (none-some ms (sym e ∙ parts_same n x s a ms (sym at) (λ c q. sym next ∙ q) back is))

-- WHAT OPENINGS MAY READ STAYS

module _ {F : Type 0} (p : Program F) (n : Extent) (W : State F → Type 0) (un : IsUnwritten p n W) where
  holds_run : (xs : List Actor) (s x : State F) → W s → Steps (step p) s xs x → W x
  holds_run [] s x w e = subst W e w
  holds_run (a ∷ rest) s x w (y, e, r) = holds_run rest y x (un.stays s y a w e) r

  pub holds_opened : (a : Actor) (s x : State F) → W s → AsSteps p a s x → W x
  holds_opened a s x w h = holds_run h.more.steps h.first x (un.stays s h.first a w h.begins) h.more.run

  -- another thread's step, where the call may begin
  word_step : (s : State F) (a : Actor) (m : Move F) (j q : ℕ) (c : CallKind) → W s → move p s a ≡ Some m → thread_of a ≢ j → next_call p s j ≡ Some c → n.own j q ≡ true → get_or s.memory q 0 ≡ get_or (perform s (thread_of a) m).memory q 0
  word_step s a m j q c w em ne e o =
      let spared : Writes m.access q → ⊥ = un.unwritten s a m j q w em ne (λ pro. false_true _ (moving_is_not_over p s a m em) (begins_after p s j (thread_of a) c e pro (λ x. ne (sym x)))) o in
      sym (word_apart s.memory m.access (Read q) (λ u x r. spared (subst (Writes m.access) (sym r) x)))

  word_then : (s : State F) (i j q : ℕ) (b : Buffer) (c : CallKind) (f : F) (s1 : State F) (rest : List (Move F)) → W s1 → slice_get s1.threads i ≡ Some (record { core = Executing f; buffer = b }) → i ≢ j → Then p n s b f rest
      → next_call p s1 j ≡ Some c → n.own j q ≡ true → get_or s1.memory q 0 ≡ get_or (perform_all s1 i rest).memory q 0
  word_then s i j q b c f s1 _ w at ne (Ends cut) e o = refl
  word_then s i j q b c f s1 _ w at ne (Goes m act) e o = word_step s1 (Exec i) m j q c w (rw at act) ne e o

  word_kind : (s : State F) (a : Actor) (ms : List (Move F)) (j q : ℕ) (c : CallKind) → W s → Kind p n s a ms → thread_of a ≢ j → next_call p s j ≡ Some c → n.own j q ≡ true → get_or s.memory q 0 ≡ get_or (perform_all s (thread_of a) ms).memory q 0
  word_kind s _ _ j q c w (Step a ms x) ne e o = rw x.is (word_step s a x.one j q c w x.moves ne e o)
  word_kind s _ _ j q c w (Call i ms x) ne e o =
      let s1 : State F = perform s i (opening x.buffer x.kind x.frame) in
      let w1 : W s1 = holds_opened (Exec i) s s1 w (opening_as_steps p n s i x.buffer x.kind x.frame x.idle x.may x.leads) in
      rw x.is (word_then s i j q x.buffer c x.frame s1 x.rest w1 (get_set_same s.threads i _ _ x.idle) ne x.next (next_stays p s i j (opening x.buffer x.kind x.frame) c (begins_not_over p s i x.buffer x.kind x.idle x.may) ne e) o)

  -- nor has it a move after another thread's where it had none
  pub none_past : (s : State F) (a b : Actor) (bs : List (Move F)) → W s → thread_of b ≢ thread_of a → NextKept p s (perform_all s (thread_of b) bs) (thread_of b) → parts p n s a ≡ None → parts p n s b ≡ Some bs → parts p n (perform_all s (thread_of b) bs) a ≡ None
  none_past s a b bs w ne kept ea eb =
      none_same p n s (perform_all s (thread_of b) bs) a (thread_past p bs s (thread_of b) (thread_of a) ne) (kept (thread_of a) ne)
      (λ c q e o. word_kind s b bs (thread_of a) q c w (kind_of p n s b bs eb) ne e o) ea

  -- a thread's move is there after another thread's
  pub parts_past : (s : State F) (a b : Actor) (ms bs : List (Move F)) → W s → thread_of b ≢ thread_of a → parts p n s a ≡ Some ms → parts p n s b ≡ Some bs → parts p n (perform_all s (thread_of b) bs) a ≡ Some ms
  parts_past s a b ms bs w ne ea eb =
      parts_same p n s (perform_all s (thread_of b) bs) a ms (thread_past p bs s (thread_of b) (thread_of a) ne) (λ c q. next_past p n s b bs (thread_of a) c eb ne q)
      (λ c q e o. word_kind s b bs (thread_of a) q c w (kind_of p n s b bs eb) ne e o) ea

-- THE ORDER OF STATES

module _ {F : Type 0} where
  begun_same : (s t : State F) (i : ℕ) → AtLeast s t → begun_by s i ≡ begun_by t i
  begun_same s t i h = length_all_zip CalledAtLeast _ _ (all_zip_at (AllZip CalledAtLeast) s.history t.history i [] tt h.history)

  next_at_least : (p : Program F) (s t : State F) (i : ℕ) → AtLeast s t → next_call p s i ≡ next_call p t i
  next_at_least p s t i h =
      let over : (j : ℕ) → is_thread_over p j (begun_by s j) (slice_get s.threads j) ≡ is_thread_over p j (begun_by t j) (slice_get t.threads j) =
      λ j. ap (λ n. is_thread_over p j n (slice_get s.threads j)) (begun_same s t j h) ∙ ap (λ (ts : List (CompactThread F)). is_thread_over p j (begun_by t j) (slice_get ts j)) h.threads in
      ap (λ b. call_if b (slice_get (calls_of p i) (begun_by s i))) (may_same p.prologue i _ _ over) ∙
      ap (λ n. call_if (may_begin p.prologue i (λ j. is_thread_over p j (begun_by t j) (slice_get t.threads j))) (slice_get (calls_of p i) n)) (begun_same s t i h)

  same_parts : (p : Program F) (n : Extent) (s t : State F) (a : Actor) → AtLeast s t → parts p n s a ≡ parts p n t a
  same_parts p n s t (Exec i) h =
      ap (λ (ts : List (CompactThread F)). option_and_then (λ th. core_parts p n i s.memory (next_call p s i) th.core th.buffer) (slice_get ts i)) h.threads ∙
      (ap (λ (k : Option CallKind). option_and_then (λ th. core_parts p n i s.memory k th.core th.buffer) (slice_get t.threads i)) (next_at_least p s t i h) ∙
      ap (λ (w : List ℕ). option_and_then (λ th. core_parts p n i w (next_call p t i) th.core th.buffer) (slice_get t.threads i)) h.memory)
  same_parts p n s t (Drains i) h = ap (λ (ts : List (CompactThread F)). option_and_then (λ th. option_map one_part (drain_move th.core th.buffer)) (slice_get ts i)) h.threads

  -- the stricter state makes the same moves
  pub late_simulates : (p : Program F) (n : Extent) (s t t' : State F) (a : Actor) → AtLeast s t → late_move p n t a ≡ Some t' → (s' : State F) × (late_move p n s a ≡ Some s') × AtLeast s' t'
  late_simulates p n s t t' a h e =
      let (ms, em, is) = lates p n t t' a e in
      (perform_all s (thread_of a) ms, late_is p n s a ms (same_parts p n s t a h ∙ em), subst (λ x. AtLeast (perform_all s (thread_of a) ms) x) is (same_performs ms s t (thread_of a) h))

  pub late_as_ended : (p : Program F) (n : Extent) (s t : State F) (a : Actor) → AtLeast s t → late_move p n t a ≡ None → late_move p n s a ≡ None
  late_as_ended p n s t a h e = go (parts p n t a) refl
    where
      go : (o : Option (List (Move F))) → parts p n t a ≡ o → late_move p n s a ≡ None
      go None q = ap (option_map (perform_all s (thread_of a))) (same_parts p n s t a h ∙ q)
      go (Some ms) q = absurd (none-some _ (sym e ∙ late_is p n t a ms q))
